-- Where bytes go, and what it holds after more of them.
use Rattle.std.specs.Prelude.{◌≡◌, ℕ, ◌+◌, cond, List, [], ◌∷◌, nat_lt, slice_set}
use Rattle.redbin.specs.Layout.{largest_file}

-- so many bytes have gone there, and this is the memory that they went into; no byte goes past its end. `home` tells which memory it is
pub record Output : Type 0 where
  pub home : ℕ
  pub size : ℕ
  pub memory : List ℕ

-- one byte more than the longest file: where so many have gone, further bytes are dropped
abbrev pub full : ℕ
full = largest_file + 1

-- one byte more
abbrev pub push : Output → ℕ → Output
push o b = cond (nat_lt o.size full) (record { home = o.home; size = o.size + 1; memory = slice_set o.memory o.size b }) o

-- these bytes more
unfoldable pub extend : Output → List ℕ → Output
extend o [] = o
extend o (b ∷ bs) = extend (push o b) bs

-- from a sink to another these bytes were written, and nothing else
abbrev pub Gained : {S : Type 0} → (S → Output) → S → List ℕ → S → Type 0
Gained f s bs t = f t ≡ extend (f s) bs
