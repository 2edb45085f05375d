use Rattle.std.proofs.Common.{arith, rules}
use Rattle.save.proofs.Runs.{width_low, gained_low, fields_none, fields_more}
use Rattle.save.proofs.fields.fields.Goals as goal

pub loop-number-init : goal.loop-number-init
loop-number-init g c = fields_none g.S.Sink.output c.bytes-size.result c.args.sink.now

pub loop-number-preserved : goal.loop-number-preserved
loop-number-preserved g c =
    let low = gained_low g.S.Sink.output _ _ c.bytes-size.result 4 _ _ (omega (arith, c.bytes-size.ensures, width_low c.args.unit)) c.to_le_bytes.ensures c.bytes.ensures in
    fields_more g.S.Sink.output c.bytes-size.result _ _ _ c.loop-number.number-index _ c.args.numbers.now c.loop-number-test.true (search rules) c.loop-number.invariant low
