-- What bytes hold after one write, and after one more.
use Rattle.std.proofs.Common.{◌≡◌, ℕ, ◌+◌, ◌≤◌, List, ◌++◌, length, take, drop, ap, ◌∙◌, append_assoc, arith, length-append, rules}
use Rattle.std.proofs.lemmas.List.{places, take_at, length-take-le, same_lists}
use Rattle.listing.specs.Memory.{written}

pub length_written : (xs : List ℕ) (a : ℕ) (ys : List ℕ) → a + length ys ≤ length xs → length (written xs a ys) ≡ length xs
length_written xs a ys h = search (rules, places)

pub written_more : (xs : List ℕ) (a b : ℕ) (ys zs : List ℕ) → b ≡ a + length ys → b ≤ length xs → written (written xs a ys) b zs ≡ written xs a (ys ++ zs)
written_more xs a b ys zs e h = same_lists _ _ (search (rules, places)) (λ k d l. grind (arith, places))

-- `o` is `xs` with `ys` written from `a` up to `b`
abbrev pub Upto : List ℕ → ℕ → List ℕ → List ℕ → ℕ → Type 0
Upto xs a ys o b = (o ≡ written xs a ys) × (b ≡ a + length ys)

pub upto_more : (xs : List ℕ) (a : ℕ) (ys zs o o' : List ℕ) (b b' : ℕ) → Upto xs a ys o b → b ≤ length xs → o' ≡ written o b zs → b' ≡ b + length zs → Upto xs a (ys ++ zs) o' b'
upto_more xs a ys zs o o' b b' u h e k = (e ∙ rw u.0 (written_more xs a b ys zs u.1 h), simp length-append (omega arith))

pub take_written : (xs : List ℕ) (a n : ℕ) (ys : List ℕ) → n ≡ a + length ys → n ≤ length xs → take n (written xs a ys) ≡ take a xs ++ ys
take_written xs a n ys e h =
    let k : length (take a xs ++ ys) ≡ n = rw length-append (omega (arith, length-take-le a xs (omega arith))) in
    rw (← append_assoc) (take_at (take a xs ++ ys) (drop (a + length ys) xs) n k)

-- after `ys` is written from `a` up to `n`
pub took : (xs o : List ℕ) (a n : ℕ) (ys : List ℕ) → o ≡ written xs a ys → n ≡ a + length ys → n ≤ length xs → (take n o ≡ take a xs ++ ys) × (length o ≡ length xs)
took xs o a n ys e u h =
    (ap (take n) e ∙ take_written xs a n ys u h, ap length e ∙ length_written xs a ys (omega arith))
