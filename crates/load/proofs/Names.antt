-- Where names end.
use Rattle.std.proofs.Common.{◌≡◌, ℕ, zero, suc, ◌<◌, ◌≤◌, Bool, true, false, cond, ◌&&◌, ltb, leb, List, [], ◌∷◌, length, get_or, take, drop, Some, None, Option, refl, arith, drop_of_length-le}
use Rattle.std.proofs.lemmas.Bool.Decides.{nat_tests}
use Rattle.steps.specs.Utf8.{lawful_name, no_zero, utf8}
use Rattle.redbin.specs.Reading.{until_zero, before, if_lawful, name_at}

pub until_zero_at : (bytes : List ℕ) (k : ℕ) → k < length bytes → get_or bytes k 0 ≡ 0 → ((i : ℕ) → i < k → 0 < get_or bytes i 0) → until_zero bytes ≡ Some (take k bytes)
unfolding until_zero
until_zero_at [] k lt z all = absurd (omega arith)
until_zero_at (zero ∷ bytes) zero lt z all = refl
until_zero_at (suc b ∷ bytes) zero lt z all = absurd (omega arith)
until_zero_at (zero ∷ bytes) (suc k) lt z all = let h = all 0 (omega arith) in absurd (omega arith)
until_zero_at (suc b ∷ bytes) (suc k) lt z all = rw (until_zero_at bytes k (omega arith) z (λ i i<. all (suc i) (omega arith)))

abbrev Long : ℕ → Option (List ℕ) → Type 0
Long n None = Unit {0}
Long n (Some name) = n ≤ length name

longer : (n b : ℕ) (o : Option (List ℕ)) → Long n o → Long (suc n) (before b o)
longer n b None h = tt
longer n b (Some name) h = omega arith

until_zero_long : (n : ℕ) (bytes : List ℕ) → ((i : ℕ) → i < n → i < length bytes → 0 < get_or bytes i 0) → Long n (until_zero bytes)
unfolding until_zero
until_zero_long n [] all = tt
until_zero_long zero (b ∷ bytes) all = always (until_zero (b ∷ bytes))
  where
    always : (o : Option (List ℕ)) → Long 0 o
    always None = tt
    always (Some name) = omega arith
until_zero_long (suc n) (zero ∷ bytes) all = let h = all 0 (omega arith) (omega arith) in absurd (omega arith)
until_zero_long (suc n) (suc b ∷ bytes) all = longer n (suc b) (until_zero bytes) (until_zero_long n bytes (λ i lt l. all (suc i) (omega arith) (omega arith)))

too_long : (o : Option (List ℕ)) → Long 256 o → if_lawful o ≡ None
too_long None h = refl
too_long (Some name) h = last (ltb 0 (length name)) (leb (length name) 255) (no_zero name && utf8 name) name (grind (arith, nat_tests))
  where
    last : (a b c : Bool) (x : List ℕ) → b ≡ false → cond (a && (b && c)) (Some x) None ≡ None
    last true b c x h = rw h
    last false b c x h = refl

module _ (strings : List ℕ) (o : ℕ) where
  pub name_behind : length strings ≤ o → name_at strings o ≡ None
  unfolding until_zero
  name_behind h = rw (drop_of_length-le strings h)

  pub name_endless : ((i : ℕ) → i < 256 → i < length (drop o strings) → 0 < get_or (drop o strings) i 0) → name_at strings o ≡ None
  name_endless all = too_long (until_zero (drop o strings)) (until_zero_long 256 (drop o strings) all)

  module _ (k : ℕ) (lt : k < length (drop o strings)) (z : get_or (drop o strings) k 0 ≡ 0) (all : (i : ℕ) → i < k → 0 < get_or (drop o strings) i 0) where
    pub name_lawful : lawful_name (take k (drop o strings)) ≡ true → name_at strings o ≡ Some (take k (drop o strings))
    name_lawful h = rw (until_zero_at (drop o strings) k lt z all, h)

    pub name_unlawful : lawful_name (take k (drop o strings)) ≡ false → name_at strings o ≡ None
    name_unlawful h = rw (until_zero_at (drop o strings) k lt z all, h)
