use Rattle.save.proofs.Outputs.{gained_none, zeros_more}
use Rattle.save.proofs.fields.zeros.Goals as goal

pub loop-init : goal.loop-init
loop-init g c = gained_none g.S.Sink.output c.args.sink.now

pub loop-preserved : goal.loop-preserved
loop-preserved g c = zeros_more g.S.Sink.output _ _ _ c.loop.counter c.loop.invariant c.push.ensures
