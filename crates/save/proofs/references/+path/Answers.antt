use Rattle.std.proofs.Common.{arith}
use Rattle.steps.specs.Outline.{values}
use Rattle.document.specs.Standing.{standing}
use Rattle.save.proofs.Sane.{kept_sound}
use Rattle.save.proofs.Climbs.{above_less, first_kept, path_then, path_none}
use Rattle.save.proofs.references.+path.Goals as goal

pub path-requires : goal.path-requires
path-requires g t c κs within =
    let l = above_less (values (standing c.args.store.now)) (kept_sound c.args.store.now) _ _ _ c.in-At.is c.above-holder.ensures c.requires in
    (omega (arith, l.0, c.decreases), (within, l.1))

pub inner_count-requires : goal.inner_count-requires
inner_count-requires g t c =
    let f = first_kept (values (standing c.args.store.now)) (kept_sound c.args.store.now) _ _ _ c.in-At.is c.above-holder.ensures c.requires in
    record { within = omega (arith, f.0); after = f.1 }

pub returns-in-At : goal.returns-in-At
returns-in-At g t c = path_then g.S.Sink.output (values (standing c.args.store.now)) (kept_sound c.args.store.now) _ _ _ _ _ _ _ c.in-At.is c.above-holder.ensures c.requires c.path.ensures c.inner_count.ensures c.words.ensures

pub returns-in_default : goal.returns-in_default
returns-in_default g t c = path_none g.S.Sink.output (values (standing c.args.store.now)) _ _ c.in_default.is
