-- The parts of a share's record.
use Rattle.std.specs.Prelude.{ℕ, ◌%◌, not, ◌==◌}
use Rattle.refusal.specs.declared.Reason.TheVariants.{BadType, BadBits}
use Rattle.refusal.specs.declared.Part.TheVariants.{Reference}
use Rattle.steps.specs.declared.parts.Node.{Node}
use Rattle.steps.specs.declared.parts.Share.{Share}
use Rattle.steps.specs.Steps.{Tag, share, begin}
use Rattle.redbin.specs.Bytes.{bit}
use Rattle.redbin.specs.Layout.{reference_type, reference_header}
use Rattle.redbin.specs.Reading.{Setting, Reads, here, any_word, refuse_when, room, bare, push, return, ◌>>=◌, ◌>>◌}

-- memory for the share, and the share
abbrev pub shared : Setting → ℕ → Tag → Share → Node → Reads (Unit {0})
shared c start l s t = do
  room c start (bare l.name)
  push c.uses (begin l (share s t))

-- the header of a reference; what is read is its place
abbrev pub reference : ℕ → Reads ℕ
reference size = do
  place ← here size
  h ← any_word size Reference
  refuse_when (not (h % bit 8 == reference_type)) BadType Reference place
  refuse_when (not (h == reference_header)) BadBits Reference place
  return place
