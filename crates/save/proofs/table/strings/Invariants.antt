use Rattle.std.proofs.Common.{◌≡◌, ◌+◌, length}
use Rattle.steps.specs.Outline.{values}
use Rattle.document.specs.Standing.{standing}
use Rattle.redbin.specs.Canonical.{strings, symbols}
use Rattle.save.specs.Sinks.{extend}
use Rattle.save.specs.SymbolsLeft.{symbols_left}
use Rattle.save.proofs.table.strings.Given as goal

-- with what is left all strings were written, and all symbols counted
abbrev pub invariant-loop-name : goal.invariant-loop-name
invariant-loop-name g l =
    (extend (g.S.Sink.output l.sink) (strings (symbols_left l.name-iterator)) ≡ extend (g.S.Sink.output l.initial.sink) (strings (symbols (values (standing l.store)))))
    × (l.count + length (symbols_left l.name-iterator) ≡ length (symbols (values (standing l.store))))
