-- The names of a symbol table.
use Rattle.std.specs.Prelude.{◌≡◌, ℕ, ◌<◌, List, length, Some, None, Option, slice_index}
use Rattle.std.specs.Borrow.{Bor}

-- the bytes that are lent, if any
abbrev pub bytes_in : Option (Bor (List ℕ)) → Option (List ℕ)
bytes_in None = None
bytes_in (Some r) = Some r.now

-- the index of the first zero among the first n bytes; none: there is none
abbrev pub Zero : ℕ → List ℕ → Option ℕ → Type 0
Zero n bytes None = (i : ℕ) → i < n → i < length bytes → 0 < slice_index bytes i
Zero n bytes (Some k) = (k < length bytes) × (slice_index bytes k ≡ 0) × ((i : ℕ) → i < k → 0 < slice_index bytes i)
