-- A close.
use Rattle.std.proofs.Common.{◌≡◌, ℕ, ◌+◌, ◌-◌, ◌<◌, ◌≤◌, true, ltb, List, [], ◌∷◌, length, Some, None, sym, refl, ap, ◌∙◌, subst, arith}
use Rattle.std.proofs.lemmas.Bool.{lt-ltb}
use Rattle.refusal.specs.declared.Reason.TheVariants.{NothingThere}
use Rattle.steps.specs.declared.parts.Node.TheVariants.{Root, At}
use Rattle.document.specs.declared.store.Store.{Store}
use Rattle.steps.specs.Adjust.{adjust}
use Rattle.steps.specs.Steps.{close}
use Rattle.steps.specs.Outline.{Opened, innermost, opened}
use Rattle.steps.specs.Law.{unless, refusal}
use Rattle.steps.specs.Items.{items}
use Rattle.steps.specs.Build.{Built, shut, apply, holder_at, cell_at, last}
use Rattle.document.specs.Standing.{standing, memory_lent}
use Rattle.steps.proofs.Good.{Deep}
use Rattle.document.proofs.Checked.{agrees, open_under}
use Rattle.document.proofs.Adding.{same_built}

root_refuses : (os : List Opened) → Root ≡ innermost os → unless (ltb 0 (length os)) NothingThere None ≡ Some NothingThere
root_refuses [] e = refl
root_refuses (o ∷ os) e = absurd cc

at_accepts : (os : List Opened) (i : ℕ) → At i ≡ innermost os → (unless (ltb 0 (length os)) NothingThere None ≡ None) × (0 < length os)
at_accepts [] i e = absurd cc
at_accepts (o ∷ os) i e = let h : ltb 0 (length (o ∷ os)) ≡ true = lt-ltb 0 (length (o ∷ os)) (omega arith) in (rw h, omega arith)

pub nothing_open : (s : Store) → s.innermost ≡ Root → refusal (memory_lent s) (standing s) close ≡ Some NothingThere
nothing_open s e = root_refuses (opened (standing s)) (sym e ∙ (agrees s).inner_is)

-- what is open can be closed
pub record Ready (s : Store) (i : ℕ) : Type 0 where
  pub lawful : refusal (memory_lent s) (standing s) close ≡ None
  pub deep : 0 < s.depth
  pub within : i < length (items s.cells)
  pub few : (last (items s.cells)).closes + 1 ≤ length (items s.cells)

pub ready : (s : Store) (i : ℕ) → s.innermost ≡ At i → Ready s i
ready s i e =
    let a = agrees s in
    let h = at_accepts (opened (standing s)) i (sym e ∙ a.inner_is) in
    let d : i + (last (items s.cells)).closes < length (items s.cells) = subst (Deep (items s.cells)) e a.good.deep in
    record { lawful = h.0; deep = omega (arith, a.depth_is, h.1); within = open_under s i e; few = omega arith }

pub closed_in_use : (m t : Built) (i n : ℕ) → m.innermost ≡ At i → n ≡ length m.cells → t.cells ≡ adjust m.cells (n - 1) shut → t.points ≡ m.points → t.names ≡ m.names → t.innermost ≡ (cell_at m.cells i).holder → t.depth ≡ m.depth - 1 → t ≡ apply close m
closed_in_use m t i n is counted closed pointed named held deep =
    same_built t (apply close m) (closed ∙ ap (λ j. adjust m.cells (j - 1) shut) counted) pointed named (held ∙ ap (holder_at m.cells) (sym is)) deep
