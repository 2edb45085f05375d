-- The parts of a list's and an object's record.
use Rattle.std.specs.Prelude.{ℕ, ◌%◌, Bool, true, false, not, ◌||◌, ◌==◌}
use Rattle.refusal.specs.declared.Reason.TheVariants.{BadType, BadBits}
use Rattle.refusal.specs.declared.Part.TheVariants.{Record}
use Rattle.redbin.specs.Bytes.{bit}
use Rattle.redbin.specs.Layout.{context_type, context_header}
use Rattle.steps.specs.declared.parts.Holder.{Holder}
use Rattle.steps.specs.Steps.{Tag, open', begin}
use Rattle.redbin.specs.Reading.{Setting, Reads, here, any_word, refuse_when, room, bare, push, return, ◌>>=◌, ◌>>◌}

-- memory for a list or an object, and its open
abbrev pub opened_with : Setting → ℕ → Tag → Holder → Reads (Unit {0})
opened_with c start l h = do
  room c start (bare l.name)
  push c.uses (begin l (open' h))

-- the header of a context; what is read is the self mark
abbrev pub context : ℕ → Reads Bool
context size = do
  place ← here size
  h ← any_word size Record
  refuse_when (not (h % bit 8 == context_type)) BadType Record place
  refuse_when (not (h == context_header false || h == context_header true)) BadBits Record place
  return (h == context_header true)
