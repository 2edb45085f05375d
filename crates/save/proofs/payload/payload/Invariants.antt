use Rattle.steps.specs.Outline.{values}
use Rattle.document.specs.Standing.{standing}
use Rattle.save.specs.Sinks.{Gained}
use Rattle.save.specs.Values.{oldest}
use Rattle.save.specs.Records.{records}
use Rattle.save.proofs.payload.payload.Given as goal

-- the records so far were written
abbrev pub invariant-loop-number : goal.invariant-loop-number
invariant-loop-number g l = Gained g.S.Sink.output l.initial.sink (records (values (standing l.store)) (oldest l.number (values (standing l.store)))) l.sink
