-- Runs of numbers in the bytes of a file.
use Rattle.std.specs.Prelude.{ℕ, zero, suc, ◌*◌, ◌<◌, ◌≤◌, List, [], ◌∷◌, take, drop, Some, None, Option}
use Rattle.redbin.specs.Bytes.{number}

-- the number in some bytes at an index, where each number has `unit` bytes
abbrev pub entry : ℕ → ℕ → List ℕ → ℕ
entry unit i bytes = number (take unit (drop (i * unit) bytes))

-- the first n numbers
unfoldable pub entries : ℕ → ℕ → List ℕ → List ℕ
entries unit zero bytes = []
entries unit (suc n) bytes = number (take unit bytes) ∷ entries unit n (drop unit bytes)

-- the index of the first of n numbers that is not below a limit; none: all are
abbrev pub Sought : ℕ → ℕ → ℕ → List ℕ → Option ℕ → Type 0
Sought unit limit n bytes None = (i : ℕ) → i < n → entry unit i bytes < limit
Sought unit limit n bytes (Some k) = (k < n) × (limit ≤ entry unit k bytes) × ((i : ℕ) → i < k → entry unit i bytes < limit)
