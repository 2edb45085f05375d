use Rattle.std.proofs.Common.{sym, ◌∙◌, arith}
use Rattle.save.specs.SymbolsLeft.{symbols_left}
use Rattle.save.proofs.Stored.{length_stored}
use Rattle.save.proofs.Symboled.{offsets_next, offsets_end, length_next}
use Rattle.save.proofs.table.offsets.Goals as goal

pub loop-name-preserved : goal.loop-name-preserved
loop-name-preserved g c =
    let left = symbols_left c.loop-name.name-iterator in
    let rest = symbols_left c.next.new.self in
    let n = c.in-Some.name.now in (
      offsets_next _ _ left rest n c.loop-name.offset _ c.in-Some.ensures.steps (omega (arith, c.zeros_after.ensures, length_stored n)) c.length.ensures ∙ c.loop-name.invariant.0,
      omega (arith, c.loop-name.invariant.1, c.zeros_after.ensures, length_next n left rest c.in-Some.ensures.steps),
    )

pub returns : goal.returns
returns g c = sym (offsets_end (g.S.Sink.output c.loop-name.sink) _ _ c.in-None.ensures.steps.0) ∙ c.loop-name.invariant.0
