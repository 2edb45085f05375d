use Rattle.redbin.specs.Bytes.{zeros}
use Rattle.save.specs.Sinks.{Gained}
use Rattle.save.proofs.fields.zeros.Given as goal

-- so many zeros were written
abbrev pub invariant-loop : goal.invariant-loop
invariant-loop g l = Gained g.S.Sink.output l.initial.sink (zeros l.counter) l.sink
