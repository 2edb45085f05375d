-- The sizes of the parts of a file, and of the whole.
use Rattle.std.specs.Prelude.{◌≡◌, ℕ, ◌+◌, ◌*◌, min, cond, length, nat_lt}
use Rattle.steps.specs.Steps.{Steps}
use Rattle.steps.specs.Outline.{values}
use Rattle.redbin.specs.Canonical.{symbols, strings, payload}
use Rattle.save.specs.Sinks.{full}

-- how many names there are, and how many bytes their strings and the payload have, counted up to `full`
pub record Counted (e : Steps) (names text records : ℕ) : Type 0 where
  pub count : names ≡ length (symbols (values e))
  pub strings : text ≡ min (length (strings (symbols (values e)))) full
  pub payload : records ≡ min (length (payload (values e) e)) full

-- the same, all counted
pub record Exact (e : Steps) (names text records : ℕ) : Type 0 where
  pub count : names ≡ length (symbols (values e))
  pub strings : text ≡ length (strings (symbols (values e)))
  pub payload : records ≡ length (payload (values e) e)

-- the size of a file with such parts: the header, the table if there are names, the payload
abbrev pub file_size : ℕ → ℕ → ℕ → ℕ
file_size names text records = 16 + cond (nat_lt 0 names) (8 + 4 * names + text) 0 + records
