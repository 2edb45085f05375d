-- Values by their number, and the open ones among them.
use Rattle.std.proofs.Common.{◌≡◌, ℕ, zero, suc, ◌<◌, ◌≤◌, Bool, true, false, cond, eqb, List, [], ◌∷◌, ◌++◌, length, Some, None, Option, sym, refl, ap, ◌∙◌, ⊎_elim, arith}
use mathlib.Core.List.{tail}
use Rattle.std.proofs.lemmas.List.{length-append}
use Rattle.std.proofs.lemmas.Bool.{eq-eqb, ne_eqb, cases_eq}
use Rattle.steps.specs.declared.parts.Cell.{Cell}
use Rattle.steps.specs.Steps.{Tag, Begun, put, open', share, begin, close, Steps}
use Rattle.steps.specs.Outline.{Entry, Opened, innermost, values, opened, entry_at, begun_at}
use Rattle.steps.specs.Build.{entry_of, cell_at}
use Rattle.steps.proofs.Told.{entries}

-- ---- values by their number

abbrev pub begun_in : Option Entry → Option Begun
begun_in None = None
begun_in (Some x) = Some x.begun

begun_cond : (t : Bool) (x : Entry) (o : Option Entry) → begun_in (cond t (Some x) o) ≡ cond t (Some x.begun) (begun_in o)
begun_cond true x o = refl
begun_cond false x o = refl

pub begun_entry : (xs : List Entry) (n : ℕ) → begun_at xs n ≡ begun_in (entry_at xs n)
unfolding begun_at entry_at
begun_entry [] n = refl
begun_entry (x ∷ xs) n = ap (cond (eqb n (length xs)) (Some x.begun)) (begun_entry xs n) ∙ sym (begun_cond (eqb n (length xs)) x (entry_at xs n))

pub entry_none : (xs : List Entry) (n : ℕ) → length xs ≤ n → entry_at xs n ≡ None
unfolding entry_at
entry_none [] n l = refl
entry_none (x ∷ xs) n l = let e : eqb n (length xs) ≡ false = ne_eqb _ _ (λ q. omega arith) in rw e (entry_none xs n (omega arith))

pub entry_first : (xs : List Entry) (x : Entry) → entry_at (x ∷ xs) (length xs) ≡ Some x
unfolding entry_at
entry_first xs x = let e : eqb (length xs) (length xs) ≡ true = eq-eqb _ _ refl in rw e

pub entry_later : (xs : List Entry) (x : Entry) (n : ℕ) → n < length xs → entry_at (x ∷ xs) n ≡ entry_at xs n
unfolding entry_at
entry_later xs x n l = let e : eqb n (length xs) ≡ false = ne_eqb _ _ (λ q. omega arith) in rw e

pub entry_oldest : (xs : List Entry) (y : Entry) → entry_at (xs ++ (y ∷ [])) 0 ≡ Some y
unfolding entry_at
entry_oldest [] y = refl
entry_oldest (x ∷ xs) y =
    let e : eqb 0 (length (xs ++ (y ∷ []))) ≡ false = ne_eqb _ _ (λ q. omega (arith, length-append xs (y ∷ []))) in rw e (entry_oldest xs y)

pub entry_newer : (xs : List Entry) (y : Entry) (n : ℕ) → n < length xs → entry_at (xs ++ (y ∷ [])) (suc n) ≡ entry_at xs n
unfolding entry_at
entry_newer [] y n l = absurd (omega arith)
entry_newer (x ∷ xs) y n l =
    let k : length (xs ++ (y ∷ [])) ≡ suc (length xs) = omega (arith, length-append xs (y ∷ [])) in
    ⊎_elim (λ q. let a : eqb (suc n) (length (xs ++ (y ∷ []))) ≡ true = eq-eqb _ _ (omega arith) in let b : eqb n (length xs) ≡ true = eq-eqb _ _ q in rw (a, b))
    (λ q. let a : eqb (suc n) (length (xs ++ (y ∷ []))) ≡ false = ne_eqb _ _ (λ r. q (omega arith)) in let b : eqb n (length xs) ≡ false = ne_eqb _ _ q in
    let s : n < length xs = omega arith in rw (a, b) (entry_newer xs y n s))
    (cases_eq n (length xs))

pub length_entries : (p n : List ℕ) (cs : List Cell) → length (entries p n cs) ≡ length cs
length_entries p n [] = refl
length_entries p n (c ∷ cs) = length-append (entries p n cs) (entry_of p n c ∷ []) ∙ omega (arith, length_entries p n cs)

-- the value of a cell
pub entry_cell : (p n : List ℕ) (cs : List Cell) (i : ℕ) → i < length cs → entry_at (entries p n cs) i ≡ Some (entry_of p n (cell_at cs i))
entry_cell p n [] i l = absurd (omega arith)
entry_cell p n (c ∷ cs) zero l = entry_oldest (entries p n cs) (entry_of p n c)
entry_cell p n (c ∷ cs) (suc i) l =
    let s : i < length cs = omega arith in
    let t : i < length (entries p n cs) = omega (arith, length_entries p n cs) in
    entry_newer (entries p n cs) (entry_of p n c) i t ∙ entry_cell p n cs i s

-- ---- the open values

-- each open value is among the values, held by the next one outward
abbrev pub Linked : List Entry → List Opened → Type 0
Linked xs [] = Unit {0}
Linked xs (o ∷ os) =
    (o.number < length xs) × ((l : Tag) × (entry_at xs o.number ≡ Some (record { label = l; begun = open' o.holder; holder = innermost os }))) × Linked xs os

pub linked_more : (xs : List Entry) (x : Entry) (os : List Opened) → Linked xs os → Linked (x ∷ xs) os
linked_more xs x [] h = tt
linked_more xs x (o ∷ os) h = (omega (arith, h.0), (h.1.0, entry_later xs x o.number h.0 ∙ h.1.1), linked_more xs x os h.2)

pub linked_less : (xs : List Entry) (os : List Opened) → Linked xs os → Linked xs (tail os)
linked_less xs [] h = tt
linked_less xs (o ∷ os) h = h.2

pub linked : (e : Steps) → Linked (values e) (opened e)
linked [] = tt
linked (begin l (put v) ∷ e) = linked_more (values e) _ (opened e) (linked e)
linked (begin l (open' h) ∷ e) = (omega arith, (l, entry_first (values e) _), linked_more (values e) _ (opened e) (linked e))
linked (begin l (share s t) ∷ e) = linked_more (values e) _ (opened e) (linked e)
linked (close ∷ e) = linked_less (values e) (opened e) (linked e)
