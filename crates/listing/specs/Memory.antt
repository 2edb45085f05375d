-- What memory holds, means and has to spare, of whose bytes `xs` the first n are used.
use Rattle.std.specs.Prelude.{◌≡◌, ℕ, ◌+◌, ◌-◌, ◌≤◌, Bool, true, ◌&&◌, List, [], ◌++◌, length, take, drop, is_some, Some, nat_le}
use Rattle.std.specs.Option.{unwrap_or}
use Rattle.std.specs.List.{AllByRecursion}
use Rattle.listing.specs.Pairs.{Pair, good}
use Rattle.listing.specs.Forms.{Form, line, lines, read}

-- `xs` with `ys` written over it from `at` on
abbrev pub written : List ℕ → ℕ → List ℕ → List ℕ
written xs at ys = take at xs ++ (ys ++ drop (at + length ys) xs)

abbrev pub unused : List ℕ → ℕ → ℕ
unused xs n = length xs - n

-- the used bytes lie within the memory, and are nothing but lines of this form
abbrev pub Kept : Form → List ℕ → ℕ → Type 0
Kept f xs n = (n ≤ length xs) × (is_some (read f (take n xs)) ≡ true)

-- what a reader takes from the used bytes
abbrev pub means : Form → List ℕ → ℕ → List Pair
means f xs n = unwrap_or (read f (take n xs)) []

-- the used bytes: a reader takes the meaning from them, they are its lines, and it holds only good pairs
pub record Text (f : Form) (xs : List ℕ) (n : ℕ) (bytes : List ℕ) : Type 0 where
  pub used : bytes ≡ take n xs
  pub meant : read f bytes ≡ Some (means f xs n)
  pub written_as : bytes ≡ lines f (means f xs n)
  pub all_good : AllByRecursion (λ p. good p ≡ true) (means f xs n)

-- a good pair fits where its line fits in the unused bytes
abbrev pub fits_in : Form → List ℕ → ℕ → Pair → Bool
fits_in f xs n p = good p && nat_le (length (line f p)) (unused xs n)

-- the line of p was written behind the first n bytes of `xs`, which gives `ys`, of which the first k are used; no other byte has changed
pub record Appended (f : Form) (xs : List ℕ) (n : ℕ) (p : Pair) (ys : List ℕ) (k : ℕ) : Type 0 where
  pub bytes : ys ≡ written xs n (line f p)
  pub used : k ≡ n + length (line f p)
  pub spare : unused xs n ≡ unused ys k + length (line f p)
