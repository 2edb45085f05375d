use Rattle.save.proofs.Recorded.{float_recorded}
use Rattle.save.proofs.Runs.{gained_all_low}
use Rattle.save.proofs.scalars.float.Goals as goal

pub returns : goal.returns
returns g c = λ all before place p. float_recorded g.S.Sink.output all before place _ _ _ _ _ _ _ (c.padding.ensures place p) c.header.ensures c.words.ensures (gained_all_low g.S.Sink.output _ _ 8 _ _ c.to_le_bytes.ensures c.bytes.ensures)
