use Rattle.std.proofs.Common.{length, sym, ap, ◌∙◌, arith}
use Rattle.steps.specs.Outline.{values}
use Rattle.document.specs.Standing.{standing}
use Rattle.save.specs.SymbolsLeft.{symbols_left}
use Rattle.save.proofs.Climbs.{count_below}
use Rattle.save.proofs.Walks.{order_few}
use Rattle.save.proofs.Symboled.{strings_next, strings_end, symbols_few}
use Rattle.save.proofs.table.strings.Goals as goal

pub overflow_add-count : goal.overflow_add-count
overflow_add-count g c =
    let all = values (standing c.args.store.now) in
    omega (arith, c.loop-name.invariant.1, ap length c.in-Some.ensures.steps, symbols_few all, order_few all (count_below c.args.store.now))

pub loop-name-preserved : goal.loop-name-preserved
loop-name-preserved g c = (
  strings_next _ _ (symbols_left c.loop-name.name-iterator) (symbols_left c.next.new.self) _ c.in-Some.ensures.steps c.store_name.ensures ∙ c.loop-name.invariant.0,
  omega (arith, c.loop-name.invariant.1, ap length c.in-Some.ensures.steps),
)

pub returns-clause-bytes : goal.returns-clause-bytes
returns-clause-bytes g c = sym (strings_end (g.S.Sink.output c.loop-name.sink) _ c.in-None.ensures.steps.0) ∙ c.loop-name.invariant.0
