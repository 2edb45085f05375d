use Rattle.std.proofs.Common.{arith}
use Rattle.save.proofs.Blind.{indexed_found, indexed_off}
use Rattle.save.proofs.sink.WriterSink.index.Goals as goal

pub returns-in-None : goal.returns-in-None
returns-in-None c = indexed_off _ c.args.table.start c.args.table.end c.args.name.now 0 (λ a b. omega (arith, c.in-None.ensures.lookup.0))

pub returns-in-Some : goal.returns-in-Some
returns-in-Some c = indexed_found _ c.args.table.start c.args.table.end c.args.name.now c.index_in.result _ c.in-Some.ensures.lookup.0.2 c.index_in.ensures
