use Rattle.std.proofs.Common.{arith}
use Rattle.save.proofs.Runs.{gained_low, gained_word}
use Rattle.save.proofs.fields.length.Goals as goal

pub returns : goal.returns
returns g c = gained_word g.S.Sink.output _ _ _ (gained_low g.S.Sink.output _ _ 4 8 _ _ (omega arith) c.to_le_bytes.ensures c.bytes.ensures)
