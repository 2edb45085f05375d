use Rattle.std.proofs.Common.{◌∙◌, rules}
use Rattle.save.proofs.Recorded.{none_recorded, logic_recorded, char_recorded, integer_recorded, bool_byte_lem, bits_are}
use Rattle.save.proofs.scalars.put.Goals as goal

pub returns-in-Nothing : goal.returns-in-Nothing
returns-in-Nothing g c = let i = c.in-Nothing.is in λ all before place p. rw i (none_recorded g.S.Sink.output all before place _ _ _ _ c.header.ensures c.words.ensures)

pub returns-in-Logic : goal.returns-in-Logic
returns-in-Logic g c = let i = c.in-Logic.is in λ all before place p. rw i (logic_recorded g.S.Sink.output all before place _ _ _ c.in-Logic.b _ _ c.header-in-Logic.ensures (c.from.ensures ∙ bool_byte_lem c.in-Logic.b) c.words-in-Logic.ensures)

pub returns-in-Char : goal.returns-in-Char
returns-in-Char g c = let i = c.in-Char.is in λ all before place p. rw i (char_recorded g.S.Sink.output all before place _ _ _ _ _ c.header-in-Char.ensures c.words-in-Char.ensures)

pub returns-in-Integer : goal.returns-in-Integer
returns-in-Integer g c =
    let i = c.in-Integer.is in
    λ all before place p. rw i (integer_recorded g.S.Sink.output all before place _ _ _ _ _ _ c.header-in-Integer.ensures (c.cast_unsigned.ensures ∙ bits_are c.in-Integer.n (search rules)) c.words-in-Integer.ensures)
