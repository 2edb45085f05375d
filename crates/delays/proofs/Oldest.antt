-- The first values of a document, one more at a time.
use Rattle.std.proofs.Common.{◌≡◌, ℕ, zero, suc, ◌+◌, ◌-◌, ◌<◌, ◌≤◌, true, false, cond, List, [], ◌∷◌, ◌++◌, length, drop, Bool, Option, Some, None, sym, refl, ap, ◌∙◌, ⊎_elim, arith, length-drop}
use Rattle.std.proofs.Math.Nat.{eq-or-lt_of_le}
use Rattle.std.proofs.lemmas.Bool.{cases_lt}
use Rattle.steps.specs.Outline.{Entry, entry_at}
use Rattle.std.specs.List.{find, range_with_len}
use Rattle.std.specs.Option.{option_map}
use Rattle.steps.proofs.Entered.{entry_first, entry_later, entry_none}
use Rattle.delays.specs.Delays.{one_or_none, delays, or_else, offender, oldest, delay_at, offends_at}

drop_none : (k : ℕ) (xs : List Entry) → k ≡ 0 → drop k xs ≡ xs
drop_none k xs e = ap (λ n. drop n xs) e

drop_one : (k m : ℕ) (x : Entry) (xs : List Entry) → k ≡ suc m → drop k (x ∷ xs) ≡ drop m xs
drop_one k m x xs e = ap (λ n. drop n (x ∷ xs)) e

-- the next value, in front of those before it
pub record Next (xs : List Entry) (k : ℕ) : Type 0 where
  pub value : Entry
  pub stands : oldest (k + 1) xs ≡ value ∷ oldest k xs
  pub found : entry_at xs k ≡ Some value

pub next : (xs : List Entry) (k : ℕ) → k < length xs → Next xs k
next [] k h = absurd (omega arith)
next (x ∷ xs) k h =
    ⊎_elim
    (λ e.
    record {
      value = x;
      stands = drop_none (suc (length xs) - (k + 1)) (x ∷ xs) (omega arith) ∙ ap (λ ys. x ∷ ys) (sym (drop_one (suc (length xs) - k) 0 x xs (omega arith)));
      found = ap (entry_at (x ∷ xs)) e ∙ entry_first xs x;
    })
    (λ l.
    let n = next xs k l in
    record {
      value = n.value;
      stands = drop_one (suc (length xs) - (k + 1)) (length xs - (k + 1)) x xs (omega arith) ∙ n.stands ∙ ap (λ ys. n.value ∷ ys) (sym (drop_one (suc (length xs) - k) (length xs - k) x xs (omega arith)));
      found = entry_later xs x k l ∙ n.found;
    })
    (eq-or-lt_of_le (omega (arith, h)))

pub length_oldest : (xs : List Entry) (k : ℕ) → k ≤ length xs → length (oldest k xs) ≡ k
length_oldest xs k h = length-drop (length xs - k) xs ∙ omega arith

pub oldest_all : (xs : List Entry) (k : ℕ) → length xs ≤ k → oldest k xs ≡ xs
oldest_all xs k h = drop_none (length xs - k) xs (omega arith)

pub oldest_none : (xs : List Entry) → oldest 0 xs ≡ []
oldest_none [] = refl
oldest_none (x ∷ xs) = drop_one (suc (length xs) - 0) (length xs - 0) x xs (omega arith) ∙ oldest_none xs

-- ---- delays and offenders, one value more

or_none : (o : Option ℕ) → o ≡ or_else o None
or_none None = refl
or_none (Some n) = refl

or_none_back : (o : Option ℕ) → or_else o None ≡ o
or_none_back o = sym (or_none o)

pub delays_more : (xs : List Entry) (k : ℕ) → k < length xs → delays (oldest (k + 1) xs) ≡ delays (oldest k xs) ++ one_or_none (delay_at xs k)
unfolding delays
delays_more xs k h = let n = next xs k h in rw (n.stands, n.found)

pub offender_more : (xs : List Entry) (k : ℕ) → k < length xs → offender (oldest (k + 1) xs) ≡ or_else (offender (oldest k xs)) (cond (offends_at xs k) (Some k) None)
unfolding offender
offender_more xs k h = let n = next xs k h in let l = length_oldest xs k (omega arith) in rw (n.stands, n.found, l)

-- ---- the lowest offender, found among numbers

or_else_later : (o : Option ℕ) (b : Bool) (n : ℕ) (later : Option ℕ) → or_else (or_else o (cond b (Some n) None)) later ≡ or_else o (cond b (Some n) later)
or_else_later None true n later = refl
or_else_later None false n later = refl
or_else_later (Some m) b n later = refl

offender_past : (xs : List Entry) (k : ℕ) → length xs ≤ k → offender (oldest (k + 1) xs) ≡ or_else (offender (oldest k xs)) (cond (offends_at xs k) (Some k) None)
offender_past xs k h = rw (oldest_all xs k h, oldest_all xs (k + 1) (omega (arith, h)), entry_none xs k h) (or_none (offender xs))

offender_next : (xs : List Entry) (k : ℕ) → offender (oldest (k + 1) xs) ≡ or_else (offender (oldest k xs)) (cond (offends_at xs k) (Some k) None)
offender_next xs k = ⊎_elim (offender_more xs k) (offender_past xs k) (cases_lt k (length xs))

-- the offender among so many numbers from one on, behind the values before that
pub offender_from : (xs : List Entry) (k n m : ℕ) → m ≡ k + n → or_else (offender (oldest k xs)) (find (offends_at xs) (range_with_len k n)) ≡ offender (oldest m xs)
offender_from xs k zero m e = or_none_back (offender (oldest k xs)) ∙ ap (λ i. offender (oldest i xs)) (omega arith)
offender_from xs k (suc n) m e =
    sym (or_else_later (offender (oldest k xs)) (offends_at xs k) k (find (offends_at xs) (range_with_len (k + 1) n)))
    ∙ ap (λ o. or_else o (find (offends_at xs) (range_with_len (k + 1) n))) (sym (offender_next xs k))
    ∙ offender_from xs (k + 1) n m (omega arith)

pub offender_range : (xs : List Entry) (n : ℕ) → n ≡ length xs → find (offends_at xs) (range_with_len 0 n) ≡ offender xs
unfolding offender
offender_range xs n e = ap (λ ys. or_else (offender ys) (find (offends_at xs) (range_with_len 0 n))) (sym (oldest_none xs)) ∙ offender_from xs 0 n n (omega arith) ∙ ap offender (oldest_all xs n (omega arith))

pub mapped_same : (o : Option ℕ) → o ≡ option_map (λ n. n) o
mapped_same None = refl
mapped_same (Some n) = refl
