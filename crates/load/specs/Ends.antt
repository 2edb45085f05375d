-- What is left of a file before its records, and behind them.
use Rattle.std.specs.Prelude.{ℕ, ◌-◌, nat_lt}
use Rattle.refusal.specs.declared.Reason.TheVariants.{Short, LeftOver}
use Rattle.refusal.specs.declared.Part.TheVariants.{Header, Record}
use Rattle.redbin.specs.Layout.{payload_size_place}
use Rattle.redbin.specs.Reading.{Reads, left, refuse_when, ◌>>=◌, ◌>>◌}

-- the payload has to be the rest of the file
abbrev pub payload_rest : ℕ → Reads (Unit {0})
payload_rest size = do
  n ← left
  refuse_when (nat_lt n size) Short Header payload_size_place
  refuse_when (nat_lt size n) LeftOver Header payload_size_place

-- nothing may be left of a file with so many bytes
abbrev pub nothing_left : ℕ → Reads (Unit {0})
nothing_left size = do
  k ← left
  refuse_when (nat_lt 0 k) LeftOver Record (size - k)
