use Rattle.std.proofs.Common.{take}
use Rattle.save.specs.Sinks.{Gained}
use Rattle.save.proofs.fields.bytes.Given as goal

-- the bytes so far were written
abbrev pub invariant-loop-byte : goal.invariant-loop-byte
invariant-loop-byte g l = Gained g.S.Sink.output l.initial.sink (take l.byte-index l.bytes) l.sink
