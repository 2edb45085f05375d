use Rattle.std.proofs.Common.{rules}
use Rattle.save.proofs.Outputs.{gained_none, gained_more}
use Rattle.save.proofs.fields.bytes.Goals as goal

pub loop-byte-init : goal.loop-byte-init
loop-byte-init g c = gained_none g.S.Sink.output c.args.sink.now

pub loop-byte-preserved : goal.loop-byte-preserved
loop-byte-preserved g c = gained_more g.S.Sink.output _ _ _ c.loop-byte.byte-index _ c.args.bytes.now c.loop-byte-test.true (search rules) c.loop-byte.invariant c.push.ensures
