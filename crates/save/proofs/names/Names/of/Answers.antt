use Rattle.std.proofs.Common.{◌≡◌, ◌-◌, length, ap, ◌∙◌, arith}
use Rattle.std.specs.List.{range_with_len, flat_map}
use Rattle.steps.specs.Outline.{values}
use Rattle.document.specs.Standing.{standing}
use Rattle.save.specs.Names.{names_at}
use Rattle.save.proofs.Walks.{order_all}
use Rattle.save.proofs.names.Names.of.Goals as goal

pub returns : goal.returns
returns c =
    let all = values (standing c.args.store.now) in
    let n : c.count.result - 0 ≡ length all = omega (arith, c.count.ensures) in
    ap (λ k. flat_map (names_at all) (range_with_len 0 k)) n ∙ order_all all
