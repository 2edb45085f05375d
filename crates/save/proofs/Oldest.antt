-- The first values of a document, one more at a time.
use Rattle.std.proofs.Common.{◌≡◌, ℕ, zero, suc, ◌+◌, ◌-◌, ◌<◌, ◌≤◌, cond, ◌⊎◌, List, [], ◌∷◌, ◌++◌, length, drop, Some, sym, refl, ap, ◌∙◌, inl, inr, ⊎_elim, arith, length-drop}
use Rattle.steps.specs.declared.parts.Node.{Node}
use Rattle.steps.specs.Outline.{Entry, entry_at, inner_names, held_by}
use Rattle.steps.proofs.Entered.{entry_first, entry_later}
use Rattle.save.specs.Values.{oldest, name_in}

pub drop_none : (k : ℕ) (xs : List Entry) → k ≡ 0 → drop k xs ≡ xs
drop_none k xs e = ap (λ n. drop n xs) e

pub drop_one : (k m : ℕ) (x : Entry) (xs : List Entry) → k ≡ suc m → drop k (x ∷ xs) ≡ drop m xs
drop_one k m x xs e = ap (λ n. drop n (x ∷ xs)) e

-- the next value, in front of those before it
pub record Next (xs : List Entry) (k : ℕ) : Type 0 where
  pub value : Entry
  pub stands : oldest (k + 1) xs ≡ value ∷ oldest k xs
  pub found : entry_at xs k ≡ Some value

pub either : (k n : ℕ) → k ≤ n → (k ≡ n) ⊎ (k < n)
either zero zero h = inl refl
either zero (suc n) h = inr (omega arith)
either (suc k) zero h = absurd (omega arith)
either (suc k) (suc n) h = ⊎_elim (λ e. inl (ap suc e)) (λ l. inr (omega arith)) (either k n (omega arith))

pub next : (xs : List Entry) (k : ℕ) → k < length xs → Next xs k
next [] k h = absurd (omega arith)
next (x ∷ xs) k h =
    ⊎_elim
    (λ e.
    record {
      value = x;
      stands = drop_none (suc (length xs) - (k + 1)) (x ∷ xs) (omega arith) ∙ ap (λ ys. x ∷ ys) (sym (drop_one (suc (length xs) - k) 0 x xs (omega arith)));
      found = ap (entry_at (x ∷ xs)) e ∙ entry_first xs x;
    })
    (λ l.
    let n = next xs k l in
    record {
      value = n.value;
      stands = drop_one (suc (length xs) - (k + 1)) (length xs - (k + 1)) x xs (omega arith) ∙ n.stands ∙ ap (λ ys. n.value ∷ ys) (sym (drop_one (suc (length xs) - k) (length xs - k) x xs (omega arith)));
      found = entry_later xs x k l ∙ n.found;
    })
    (either k (length xs) (omega arith))

pub length_oldest : (xs : List Entry) (k : ℕ) → k ≤ length xs → length (oldest k xs) ≡ k
length_oldest xs k h = length-drop (length xs - k) xs ∙ omega arith

pub oldest_all : (xs : List Entry) (k : ℕ) → length xs ≤ k → oldest k xs ≡ xs
oldest_all xs k h = drop_none (length xs - k) xs (omega arith)

pub oldest_none : (xs : List Entry) → oldest 0 xs ≡ []
oldest_none [] = refl
oldest_none (x ∷ xs) = drop_one (suc (length xs) - 0) (length xs - 0) x xs (omega arith) ∙ oldest_none xs

-- ---- the names of inner values, one value more

module _ (xs : List Entry) (h : Node) where
  pub inner_none : inner_names (oldest 0 xs) h ≡ []
  unfolding inner_names
  inner_none = rw oldest_none

  pub inner_more : (k : ℕ) → k < length xs → inner_names (oldest (k + 1) xs) h ≡ inner_names (oldest k xs) h ++ cond (held_by (entry_at xs k) h) (name_in (entry_at xs k) ∷ []) []
  unfolding inner_names
  inner_more k l = let n = next xs k l in rw (n.stands, n.found)
