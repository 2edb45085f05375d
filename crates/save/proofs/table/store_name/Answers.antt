use Rattle.save.proofs.Symboled.{stored_parts}
use Rattle.save.proofs.table.store_name.Goals as goal

pub returns : goal.returns
returns g c = stored_parts g.S.Sink.output _ _ _ c.args.name.now _ c.zeros_after.ensures c.bytes.ensures c.zeros.ensures
