use Rattle.std.proofs.Common.{◌≡◌, ℕ, false, eqb, List, [], ◌∷◌, ◌++◌, length, sym, refl, ap, ◌∙◌, arith}
use Rattle.std.proofs.lemmas.Bool.Decides.{nat_tests}
use Rattle.steps.specs.declared.parts.Cell.{Cell}
use Rattle.steps.specs.Steps.{Step, Steps}
use Rattle.steps.specs.Build.{tell}
use Rattle.steps.specs.Items.{items}
use Rattle.document.specs.Standing.{none_stands}
use Rattle.document.proofs.store.Store.is_empty.Goals as goal

some_stands : (e f : Steps) (s : Step) → none_stands (e ++ (f ++ (s ∷ []))) ≡ false
some_stands [] [] s = refl
some_stands [] (x ∷ f) s = refl
some_stands (x ∷ e) f s = refl

counted : (ps ns : List ℕ) (cs : List Cell) → eqb (length cs) 0 ≡ none_stands (tell ps ns cs)
counted ps ns [] = refl
counted ps ns (c ∷ cs) =
    let f : eqb (length (c ∷ cs)) 0 ≡ false = grind (arith, nat_tests) in
    f ∙ sym (some_stands (tell ps ns cs) _ _)

pub returns : goal.returns
returns c =
    let s = c.args.self.now in
    ap (λ (n : ℕ). eqb n 0) c.count.ensures ∙ counted (items s.codepoints) (items s.names) (items s.cells)
