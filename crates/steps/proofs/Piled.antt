-- How many elements of a pile are in use, and how many more fit.
use Rattle.std.proofs.Common.{◌≡◌, ℕ, ◌+◌, ◌≤◌, length, arith}
use native.Mathlib.Nat.{min-le_left, min-le_right}
use Rattle.std.proofs.lemmas.List.{length-take-le}
use Rattle.steps.specs.declared.pile.Pile.{Pile}
use Rattle.steps.specs.Items.{items, lent, room}

pub uses : {T : Type 0} (p : Pile T) → length (items p) ≡ p.used
uses p = length-take-le p.used p.memory.now p.within

pub fits : {T : Type 0} (p : Pile T) (n : ℕ) → length (items p) + n ≤ room p → (p.used + n ≤ lent p) × (p.used + n ≤ p.bound)
fits p n h =
    let l = uses p in
    let a = min-le_left (lent p) p.bound in
    let b = min-le_right (lent p) p.bound in
    (omega arith, omega arith)
