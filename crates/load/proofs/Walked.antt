-- The values that a holder holds, and how paths lead to them.
use Rattle.std.proofs.Common.{◌≡◌, ℕ, zero, suc, ◌+◌, ◌<◌, Bool, true, false, cond, eqb, List, [], ◌∷◌, ◌++◌, map, length, get_or, drop, Some, None, Option, sym, refl, ap, ◌∙◌, arith}
use Rattle.std.specs.List.{filter, range_with_len, slice_get}
use Rattle.std.specs.Option.{option_map}
use Rattle.std.proofs.Math.Seq.{drop-cons}
use Rattle.std.proofs.lemmas.Bool.Decides.{nat_tests}
use Rattle.std.proofs.lemmas.List.Elements.{filter-append}
use Rattle.steps.specs.declared.parts.Node.{Node}
use Rattle.steps.specs.Outline.{Entry, entry_at, begun_at, held_by, same_holder, inner, nth, walk, onward, through}
use Rattle.redbin.specs.Bytes.{number}

-- whether the value of a number is held
abbrev pub holds : List Entry → Node → ℕ → Bool
holds xs h n = held_by (entry_at xs n) h

range_more : (a n : ℕ) → range_with_len a (suc n) ≡ range_with_len a n ++ ((a + n) ∷ [])
range_more a zero = let e : a ≡ a + 0 = omega arith in ap (λ (k : ℕ). k ∷ []) e
range_more a (suc n) = let e : a + 1 + n ≡ a + suc n = omega arith in ap (λ (ks : List ℕ). a ∷ ks) (range_more (a + 1) n ∙ ap (λ (k : ℕ). range_with_len (a + 1) n ++ (k ∷ [])) e)

-- only the numbers in a range matter for what passes
pass_alike : (p q : ℕ → Bool) (a n : ℕ) → ((i : ℕ) → i < a + n → p i ≡ q i) → filter p (range_with_len a n) ≡ filter q (range_with_len a n)
pass_alike p q a zero h = refl
pass_alike p q a (suc n) h = rw (h a (omega arith), pass_alike p q (a + 1) n (λ i lt. h i (omega arith)))

newest : (x : Entry) (xs : List Entry) (h : Node) → holds (x ∷ xs) h (length xs) ≡ same_holder x.holder h
unfolding entry_at
newest x xs h =
    let t : eqb (length xs) (length xs) ≡ true = grind (arith, nat_tests) in
    rw t

older : (x : Entry) (xs : List Entry) (h : Node) (i : ℕ) → i < length xs → holds (x ∷ xs) h i ≡ holds xs h i
unfolding entry_at
older x xs h i lt =
    let t : eqb i (length xs) ≡ false = grind (arith, nat_tests) in
    rw t

pub held_numbers : (xs : List Entry) (h : Node) → filter (holds xs h) (range_with_len 0 (length xs)) ≡ inner xs h
unfolding inner
held_numbers [] h = refl
held_numbers (x ∷ xs) h =
    ap (filter (holds (x ∷ xs) h)) (range_more 0 (length xs))
    ∙ filter-append (holds (x ∷ xs) h) (range_with_len 0 (length xs)) ((0 + length xs) ∷ [])
    ∙ ap (λ (ns : List ℕ). ns ++ filter (holds (x ∷ xs) h) ((0 + length xs) ∷ [])) (pass_alike (holds (x ∷ xs) h) (holds xs h) 0 (length xs) (λ i lt. older x xs h i (omega arith)) ∙ held_numbers xs h)
    ∙ last
  where
    last : inner xs h ++ filter (holds (x ∷ xs) h) ((0 + length xs) ∷ []) ≡ inner xs h ++ cond (same_holder x.holder h) (length xs ∷ []) []
    last = let z : 0 + length xs ≡ length xs = omega arith in rw (z, newest x xs h) refl

nth_get : (ns : List ℕ) (i : ℕ) → slice_get ns i ≡ nth ns i
unfolding nth
nth_get [] i = refl
nth_get (n ∷ ns) zero = refl
nth_get (n ∷ ns) (suc i) = nth_get ns i

as_is : (o : Option ℕ) → option_map (λ (n : ℕ). n) o ≡ o
as_is None = refl
as_is (Some n) = refl

-- the inner value at an index
pub nth_held : (xs : List Entry) (h : Node) (n i : ℕ) (o : Option ℕ) → n ≡ length xs → option_map (λ (n : ℕ). n) o ≡ slice_get (filter (holds xs h) (range_with_len 0 n)) i → o ≡ nth (inner xs h) i
nth_held xs h n i o e k = sym (as_is o) ∙ k ∙ rw (e, held_numbers xs h) (nth_get (inner xs h) i)

-- the value of a number, without its label and holder
pub begun_in : (xs : List Entry) (n : ℕ) → begun_at xs n ≡ option_map (λ (x : Entry). x.begun) (entry_at xs n)
unfolding begun_at entry_at
begun_in [] n = refl
begun_in (x ∷ xs) n = first (eqb n (length xs)) (begun_in xs n)
  where
    first : (b : Bool) → begun_at xs n ≡ option_map (λ (x : Entry). x.begun) (entry_at xs n) → cond b (Some x.begun) (begun_at xs n) ≡ option_map (λ (x : Entry). x.begun) (cond b (Some x) (entry_at xs n))
    first true h = refl
    first false h = h

-- no path leads on from nowhere
walk_none : (xs : List Entry) (os : List ℕ) → walk xs None os ≡ None
unfolding walk
walk_none xs [] = refl
walk_none xs (o ∷ os) = walk_none xs os

module _ (xs : List Entry) (node : Node) (path : List (List ℕ)) (i : ℕ) (lt : i < length path) where
  walk_first : walk xs (Some node) (map number (drop i path)) ≡ walk xs (onward xs (Some node) (number (get_or path i []))) (map number (drop (i + 1) path))
  unfolding walk
  walk_first = let k : i + 1 ≡ suc i = omega arith in rw (drop-cons path i [], k)

  pub walk_on : (n : ℕ) → Some n ≡ nth (inner xs node) (number (get_or path i [])) → walk xs (Some (through xs n)) (map number (drop (i + 1) path)) ≡ walk xs (Some node) (map number (drop i path))
  walk_on n h = sym (walk_first ∙ rw (← h))

  pub walk_off : None ≡ nth (inner xs node) (number (get_or path i [])) → None ≡ walk xs (Some node) (map number (drop i path))
  walk_off h = sym (walk_first ∙ rw (← h) (walk_none xs _))
