-- What headers come to, by the place in the file.
use Rattle.std.proofs.Common.{◌≡◌, ℕ, ◌-◌, ◌%◌, ◌<◌, ◌≤◌, Bool, true, false, cond, not, ◌||◌, eqb, ltb, List, [], ◌∷◌, length, get_or, take, refl, arith}
use Rattle.std.proofs.lemmas.Bool.Decides.{nat_tests}
use Rattle.refusal.specs.declared.Part.TheVariants.{Record}
use Rattle.steps.specs.Steps.{Steps}
use Rattle.redbin.specs.Bytes.{number}
use Rattle.redbin.specs.Reading.{Setting, after, here, any_word, refuse_when, heading_of, behind_padding, heading}
use Rattle.load.specs.Ran.{state}

number_one : (bytes : List ℕ) → number (take 1 bytes) ≡ get_or bytes 0 0
unfolding number
number_one [] = omega arith
number_one (a ∷ bytes) = omega arith

-- no whole header of a float follows
abbrev pub other : List ℕ → Bool
other bytes = ltb (length bytes) 4 || not (eqb (number (take 1 bytes)) 12)

pub other_short : (bytes : List ℕ) → length bytes < 4 → not (other bytes) ≡ false
other_short bytes h =
    let t : ltb (length bytes) 4 ≡ true = grind (arith, nat_tests) in
    rw t

pub other_long : (bytes : List ℕ) → 4 ≤ length bytes → not (other bytes) ≡ eqb (get_or bytes 0 0) 12
other_long bytes h =
    let t : ltb (length bytes) 4 ≡ false = grind (arith, nat_tests) in
    rw (t, number_one bytes) (twice (eqb (get_or bytes 0 0) 12))
  where
    twice : (b : Bool) → not (not b) ≡ b
    twice true = refl
    twice false = refl

is_false : (b : Bool) → true ≡ not b → b ≡ false
is_false true h = h
is_false false h = refl

module _ (c : Setting) (place h : ℕ) (bytes : List ℕ) (e : Steps) where
  pub padding_next : true ≡ not (other bytes) → eqb h 0 ≡ true → behind_padding c place h (state bytes e) ≡ after (any_word c.size Record (state bytes e)) (heading_of c (c.size - length bytes))
  unfolding behind_padding after refuse_when here
  padding_next t z = rw (is_false (other bytes) t, z)

module _ (c : Setting) (bytes : List ℕ) (e : Steps) where
  pub heading_starts : heading c (state bytes e) ≡ after (any_word c.size Record (state bytes e)) (λ h. cond (eqb (h % 256) 0) (behind_padding c (c.size - length bytes) h) (heading_of c (c.size - length bytes) h))
  unfolding heading after here
  heading_starts = refl
