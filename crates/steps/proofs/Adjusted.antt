-- One cell changed in its place.
use Rattle.std.proofs.Common.{◌≡◌, ℕ, zero, suc, List, [], ◌∷◌, length, get_or, take, set, sym, refl, ap, ◌∙◌}
use Rattle.steps.specs.declared.parts.Node.{Node}
use Rattle.steps.specs.declared.parts.Node.TheVariants.{Root, At}
use Rattle.steps.specs.declared.parts.Cell.{Cell}
use Rattle.steps.specs.Adjust.{adjust}
use Rattle.steps.specs.Build.{adjust_at}

pub adjust_set : {X : Type 0} (xs : List X) (i : ℕ) (f : X → X) (d : X) → set xs i (f (get_or xs i d)) ≡ adjust xs i f
adjust_set [] i f d = refl
adjust_set (x ∷ xs) zero f d = refl
adjust_set (x ∷ xs) (suc i) f d = ap (λ ys. x ∷ ys) (adjust_set xs i f d)

pub length_adjust : {X : Type 0} (xs : List X) (i : ℕ) (f : X → X) → length (adjust xs i f) ≡ length xs
length_adjust [] i f = refl
length_adjust (x ∷ xs) zero f = refl
length_adjust (x ∷ xs) (suc i) f = ap suc (length_adjust xs i f)

pub length_adjust_at : (o : Node) (f : Cell → Cell) (cs : List Cell) → length (adjust_at o f cs) ≡ length cs
length_adjust_at Root f cs = refl
length_adjust_at (At i) f cs = length_adjust cs i f

-- a cell that is read, changed and written back
pub stored : (o : Node) (xs : List Cell) (i : ℕ) (f : Cell → Cell) (x y d : Cell) → o ≡ At i → y ≡ f x → x ≡ get_or xs i d → set xs i y ≡ adjust_at o f xs
stored o xs i f x y d e p h = ap (λ v. set xs i v) (p ∙ ap f h) ∙ adjust_set xs i f d ∙ ap (λ w. adjust_at w f xs) (sym e)

pub take_adjust : {X : Type 0} (n : ℕ) (xs : List X) (i : ℕ) (f : X → X) → take n (adjust xs i f) ≡ adjust (take n xs) i f
take_adjust zero xs i f = refl
take_adjust (suc n) [] i f = refl
take_adjust (suc n) (y ∷ xs) zero f = refl
take_adjust (suc n) (y ∷ xs) (suc i) f = ap (λ ys. y ∷ ys) (take_adjust n xs i f)

pub take_adjust_at : (n : ℕ) (xs : List Cell) (o : Node) (f : Cell → Cell) → take n (adjust_at o f xs) ≡ adjust_at o f (take n xs)
take_adjust_at n xs Root f = refl
take_adjust_at n xs (At i) f = take_adjust n xs i f
