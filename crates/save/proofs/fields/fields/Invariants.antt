use Rattle.std.proofs.Common.{take}
use Rattle.redbin.specs.Bytes.{fields}
use Rattle.save.specs.Sinks.{Gained}
use Rattle.save.proofs.fields.fields.Given as goal

-- the fields so far were written
abbrev pub invariant-loop-number : goal.invariant-loop-number
invariant-loop-number g l = Gained g.S.Sink.output l.initial.sink (fields l.size (take l.number-index l.numbers)) l.sink
