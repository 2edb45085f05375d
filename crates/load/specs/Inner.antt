-- Headers inside records, which announce no value.
use Rattle.std.specs.Prelude.{ℕ, ◌%◌, not, ◌||◌, ◌==◌}
use Rattle.refusal.specs.declared.Reason.TheVariants.{BadType, BadBits}
use Rattle.refusal.specs.declared.Part.{Part}
use Rattle.redbin.specs.Bytes.{bit}
use Rattle.redbin.specs.Reading.{Reads, here, any_word, refuse_when, return, ◌>>=◌, ◌>>◌}

-- one of two headers of a type: first the type is checked, then the other bits
abbrev pub inner_header : Part → ℕ → ℕ → ℕ → Reads ℕ
inner_header part plain marked size = do
  place ← here size
  h ← any_word size part
  refuse_when (not (h % bit 8 == plain % bit 8)) BadType part place
  refuse_when (not (h == plain || h == marked)) BadBits part place
  return h
