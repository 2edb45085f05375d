use Rattle.std.proofs.Common.{refl, arith}
use Rattle.steps.specs.Outline.{values}
use Rattle.document.specs.Standing.{standing}
use Rattle.redbin.specs.Canonical.{symbols}
use Rattle.save.proofs.Blind.{ready_gained}
use Rattle.save.proofs.Paid.{records_none, placed, records_next, records_all}
use Rattle.save.proofs.payload.payload.Goals as goal

pub loop-number-init : goal.loop-number-init
loop-number-init g c = records_none g.S.Sink.output (values (standing c.args.store.now)) c.args.sink.now

pub record-requires : goal.record-requires
record-requires g c =
    let xs = values (standing c.args.store.now) in
    let f = g.S.Sink.output in
    let p = placed f xs c.args.sink.now c.loop-number.sink c.loop-number.number c.size-start.result c.size-start.ensures c.requires.low c.loop-number.invariant in
    record {
      there = omega (arith, c.count-number-end.ensures);
      ready = ready_gained f _ _ _ c.args.table.start c.args.table.end (symbols xs) c.loop-number.invariant c.requires.ready;
      started = omega (arith, p, c.size-start.ensures, c.requires.low);
    }

pub loop-number-preserved : goal.loop-number-preserved
loop-number-preserved g c =
    let xs = values (standing c.args.store.now) in
    let f = g.S.Sink.output in
    let p = placed f xs c.args.sink.now c.loop-number.sink c.loop-number.number c.size-start.result c.size-start.ensures c.requires.low c.loop-number.invariant in
    records_next f xs c.args.sink.now _ _ c.loop-number.number (omega (arith, c.count-number-end.ensures)) c.loop-number.invariant (c.record.ensures _ p)

pub returns : goal.returns
returns g c = records_all g.S.Sink.output (values (standing c.args.store.now)) c.args.sink.now _ c.loop-number.number (standing c.args.store.now) (omega (arith, c.count-number-end.ensures)) refl c.loop-number.invariant
