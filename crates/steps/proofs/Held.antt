-- The holders of cells.
use Rattle.std.proofs.Common.{◌≡◌, ℕ, zero, suc, ◌+◌, ◌<◌, ◌≤◌, List, [], ◌∷◌, ◌++◌, length, get_or, refl, ap, subst, arith}
use Rattle.steps.specs.declared.parts.Node.{Node}
use Rattle.steps.specs.declared.parts.Node.TheVariants.{Root, At}
use Rattle.steps.specs.declared.parts.Cell.{Cell}
use Rattle.steps.specs.Adjust.{adjust}
use Rattle.steps.specs.Build.{adjust_at, holders, cell_at, Under}

pub under_more : (K L : ℕ) (o : Node) → K ≤ L → Under K o → Under L o
under_more K L Root le h = tt
under_more K L (At i) le h = omega (arith, le, h)

pub holders_adjust : (cs : List Cell) (i : ℕ) (f : Cell → Cell) → ((c : Cell) → (f c).holder ≡ c.holder) → holders (adjust cs i f) ≡ holders cs
holders_adjust [] i f h = refl
holders_adjust (c ∷ cs) zero f h = ap (λ o. o ∷ holders cs) (h c)
holders_adjust (c ∷ cs) (suc i) f h = ap (λ os. c.holder ∷ os) (holders_adjust cs i f h)

pub holders_adjust_at : (o : Node) (cs : List Cell) (f : Cell → Cell) → ((c : Cell) → (f c).holder ≡ c.holder) → holders (adjust_at o f cs) ≡ holders cs
holders_adjust_at Root cs f h = refl
holders_adjust_at (At i) cs f h = holders_adjust cs i f h

pub holders_push : (cs : List Cell) (c : Cell) → holders (cs ++ (c ∷ [])) ≡ holders cs ++ (c.holder ∷ [])
holders_push [] c = refl
holders_push (d ∷ cs) c = ap (λ os. d.holder ∷ os) (holders_push cs c)

pub length_holders : (cs : List Cell) → length (holders cs) ≡ length cs
length_holders [] = refl
length_holders (c ∷ cs) = ap suc (length_holders cs)

pub holders_at : (cs : List Cell) (i : ℕ) → get_or (holders cs) i Root ≡ (cell_at cs i).holder
holders_at [] i = refl
holders_at (c ∷ cs) zero = refl
holders_at (c ∷ cs) (suc i) = holders_at cs i

-- each holder stands before what it holds
abbrev pub Below : ℕ → List Node → Type 0
Below k [] = Unit {0}
Below k (o ∷ os) = Under k o × Below (suc k) os

pub below_push : (k n : ℕ) (os : List Node) (o : Node) → Below k os → n ≡ k + length os → Under n o → Below k (os ++ (o ∷ []))
below_push k n [] o h e u = let z : n ≡ k = omega (arith, e) in (subst (λ i. Under i o) z u, tt)
below_push k n (p ∷ os) o h e u = (h.0, below_push (suc k) n os o h.1 (omega (arith, e)) u)

pub below_at : (k i n : ℕ) (os : List Node) → Below k os → i < length os → n ≡ k + i → Under n (get_or os i Root)
below_at k i n [] h l e = absurd (omega (arith, l))
below_at k zero n (o ∷ os) h l e = let z : k ≡ n = omega (arith, e) in subst (λ j. Under j o) z h.0
below_at k (suc i) n (o ∷ os) h l e = below_at (suc k) i n os h.1 (omega (arith, l)) (omega (arith, e))
