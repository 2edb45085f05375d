use Rattle.std.proofs.Common.{ap, ◌∙◌, arith}
use Rattle.steps.specs.Outline.{values}
use Rattle.document.specs.Standing.{standing}
use Rattle.save.specs.Values.{above}
use Rattle.save.proofs.Sane.{kept_sound}
use Rattle.save.proofs.Climbs.{count_below, above_less, path_more, first_low}
use Rattle.save.proofs.references.+depth.Goals as goal

pub depth-requires : goal.depth-requires
depth-requires t c =
    let l = above_less (values (standing c.args.store.now)) (kept_sound c.args.store.now) _ _ _ c.in-At.is (c.above.ensures ∙ ap (above (values (standing c.args.store.now))) c.in-At.is) c.requires in
    (omega (arith, l.0, c.decreases), l.1)

pub overflow_add-result : goal.overflow_add-result
overflow_add-result t c =
    let xs = values (standing c.args.store.now) in
    let s = kept_sound c.args.store.now in
    omega (arith, c.depth.ensures.low, above_less xs s _ _ _ c.in-At.is (c.above.ensures ∙ ap (above (values (standing c.args.store.now))) c.in-At.is) c.requires, first_low xs s _ c.requires, count_below c.args.store.now)

pub returns-in-At-clause-length : goal.returns-in-At-clause-length
returns-in-At-clause-length t c = path_more (values (standing c.args.store.now)) (kept_sound c.args.store.now) _ _ _ _ c.in-At.is (c.above.ensures ∙ ap (above (values (standing c.args.store.now))) c.in-At.is) c.requires c.depth.ensures.length

pub returns-in-At-clause-low : goal.returns-in-At-clause-low
returns-in-At-clause-low t c = omega (arith, c.depth.ensures.low, above_less (values (standing c.args.store.now)) (kept_sound c.args.store.now) _ _ _ c.in-At.is (c.above.ensures ∙ ap (above (values (standing c.args.store.now))) c.in-At.is) c.requires)
