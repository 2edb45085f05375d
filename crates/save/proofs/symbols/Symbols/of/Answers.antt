use Rattle.std.proofs.Common.{length, ap, ◌∙◌, arith}
use Rattle.std.specs.List.{enumerate_from}
use Rattle.std.specs.Iterator.Adapters.{enumerate_source}
use Rattle.steps.specs.Outline.{values}
use Rattle.document.specs.Standing.{standing}
use Rattle.save.specs.Names.{in_order, fresh}
use Rattle.save.specs.Left.{names_left}
use Rattle.save.proofs.Climbs.{count_below}
use Rattle.save.proofs.Walks.{order_few}
use Rattle.save.proofs.Onces.{fresh_symbols}
use Rattle.save.proofs.symbols.Symbols.of.Goals as goal

pub invariant_of-result : goal.invariant_of-result
invariant_of-result c =
    let all = values (standing c.args.store.now) in
    record { fits = omega (arith, c.enumerate.ensures.count, ap (λ s. length (names_left s)) c.enumerate.ensures.source, ap length c.of.ensures, order_few all (count_below c.args.store.now)) }

pub returns : goal.returns
returns c =
    let all = values (standing c.args.store.now) in
    ap (λ k. fresh (in_order all) (enumerate_from k (names_left (enumerate_source c.enumerate.result)))) c.enumerate.ensures.count ∙ ap (λ s. fresh (in_order all) (enumerate_from 0 (names_left s))) c.enumerate.ensures.source ∙ ap (λ ns. fresh (in_order all) (enumerate_from 0 ns)) c.of.ensures ∙ fresh_symbols all
