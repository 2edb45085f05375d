use Rattle.save.proofs.Recorded.{text_recorded, fill_last}
use Rattle.save.proofs.scalars.text.Goals as goal

pub returns : goal.returns
returns g c = λ all before place. text_recorded g.S.Sink.output all before place _ _ _ _ _ _ _ _ _ _ _ _ c.narrowest-unit.ensures c.header.ensures c.words.ensures c.length.ensures c.fields.ensures (fill_last _ _ _ _ c.bytes.ensures c.next_multiple_of.ensures.value) c.zeros.ensures
