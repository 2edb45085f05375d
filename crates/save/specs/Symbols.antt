-- Names among the strings of the symbol table, where that stands in an output.
use Rattle.std.specs.Prelude.{◌≡◌, ℕ, ◌-◌, ◌≤◌, true, ◌⊎◌, List, [], ◌∷◌, ◌++◌, length, take, drop, None, Option, IsSomeAnd}
use denote.Ref.{Bor}
use Rattle.steps.specs.Steps.{Name}
use Rattle.steps.specs.Utf8.{no_zero}
use Rattle.redbin.specs.Bytes.{words}
use Rattle.redbin.specs.Canonical.{stored, strings, index_of}
use Rattle.save.specs.Sinks.{Output, full, extend}

-- no name has a zero
abbrev pub Clean : List Name → Type 0
Clean [] = Unit {0}
Clean (n ∷ ns) = (no_zero n ≡ true) × Clean ns

-- a step along strings: behind the last there is none, and else it takes the first string, and leaves the strings behind it
pub record TakesStored (from : List ℕ) (r : Option (Bor (List ℕ))) (left : List ℕ) : Type 0 where
  pub none : from ≡ [] → r ≡ None
  pub some : (n : Name) (rest : List ℕ) → from ≡ stored n ++ rest → no_zero n ≡ true → IsSomeAnd r (λ x. (x.now ≡ stored n) × (left ≡ rest))

-- the strings of these names stand in the memory, where no further byte goes
pub record Tabled (o : Output) (start end : ℕ) (names : List Name) : Type 0 where
  pub clean : Clean names
  pub ordered : start ≤ end
  pub inside : end ≤ length o.memory
  pub low : end ≤ full
  pub behind : end ≤ o.size
  pub stands : take (end - start) (drop start o.memory) ≡ strings names

-- they stand there, or there is no memory to write into
abbrev pub Ready : Output → ℕ → ℕ → List Name → Type 0
Ready o start end names = (o.memory ≡ []) ⊎ Tabled o start end names

-- written as a word, this number is the index of the name among any names whose strings stand there
abbrev pub Indexed : Output → ℕ → ℕ → Name → ℕ → Type 0
Indexed o start end name i = (names : List Name) → Ready o start end names → no_zero name ≡ true → extend o (words (i ∷ [])) ≡ extend o (words (index_of names name ∷ []))
