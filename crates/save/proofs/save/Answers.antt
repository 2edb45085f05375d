use Rattle.std.proofs.Common.{refl, arith}
use Rattle.document.specs.Standing.{standing}
use Rattle.save.proofs.Whole.{exact_size, refused_long, accepted_fits}
use Rattle.save.proofs.save.Goals as goal

pub returns-then-size-output : goal.returns-then-size-output
returns-then-size-output c = (refused_long (standing c.args.store.now) c.args.output.now _ _ _ _ c.of-sizes.ensures c.file_size-size.ensures c.if-has_open.ensures c.then-size-output.either, refl)

pub write-requires : goal.write-requires
write-requires c =
    let x = exact_size (standing c.args.store.now) _ _ _ _ c.of-sizes.ensures c.file_size-size.ensures (omega arith) in
    record { exact = x.0; fits = omega (arith, x.1); low = omega (arith, x.1) }

pub returns : goal.returns
returns c = (
  accepted_fits (standing c.args.store.now) c.args.output.now _ _ _ _ c.of-sizes.ensures c.file_size-size.ensures c.if-has_open.ensures (omega arith) (omega arith),
  (exact_size (standing c.args.store.now) _ _ _ _ c.of-sizes.ensures c.file_size-size.ensures (omega arith)).1,
  c.write.ensures,
)
