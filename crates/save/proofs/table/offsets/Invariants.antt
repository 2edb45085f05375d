use Rattle.std.proofs.Common.{◌≡◌, ◌+◌, length}
use Rattle.steps.specs.Outline.{values}
use Rattle.document.specs.Standing.{standing}
use Rattle.redbin.specs.Bytes.{words}
use Rattle.redbin.specs.Canonical.{strings, offsets, symbols}
use Rattle.save.specs.Sinks.{extend}
use Rattle.save.specs.SymbolsLeft.{symbols_left}
use Rattle.save.proofs.table.offsets.Given as goal

-- with what is left all offsets were written, and the next string starts here
abbrev pub invariant-loop-name : goal.invariant-loop-name
invariant-loop-name g l =
    (extend (g.S.Sink.output l.sink) (words (offsets l.offset (symbols_left l.name-iterator))) ≡ extend (g.S.Sink.output l.initial.sink) (words (offsets 0 (symbols (values (standing l.store))))))
    × (l.offset + length (strings (symbols_left l.name-iterator)) ≡ length (strings (symbols (values (standing l.store)))))
