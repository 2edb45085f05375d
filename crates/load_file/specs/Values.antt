-- What reading values asks, and what it gives.
use Rattle.std.specs.Prelude.{◌≡◌, ℕ, ◌+◌, Bool, true, cond, List, [], ◌∷◌, length, Result, ◌==◌}
use Rattle.refusal.specs.declared.Refusal.{Refusal}
use Rattle.steps.specs.Utf8.{lawful_name}
use Rattle.steps.specs.Steps.{Name}
use Rattle.steps.specs.Outline.{opened}
use Rattle.steps.specs.Law.{deepest}
use Rattle.document.specs.declared.store.Store.{Store}
use Rattle.document.specs.Standing.{standing}
use Rattle.redbin.specs.Reading.{Setting, Reads}
use Rattle.load.specs.declared.filler.Filler.{Filler}
use Rattle.load.specs.Filled.{Fills}
use Rattle.load_file.specs.declared.depth.Depth.{Depth}
use Rattle.load_file.specs.declared.loader.Loader.{Loader}
use Rattle.load_file.specs.Levels.{Untouched}
use Rattle.load_file.specs.Scopes.{within}

-- so many levels are still permitted where a value is read into a store
abbrev pub Prepared : ℕ → Store → Type 0
Prepared left b = left + length (opened (standing b)) ≡ deepest

-- values with these names may stand directly in an object, or elsewhere
abbrev pub Named : Bool → List Name → Type 0
Named o [] = Unit {0}
Named o (n ∷ ns) = (cond o (lawful_name n) (length n == 0) ≡ true) × Named o ns

-- a loader read with a filler as a definition says
pub record Read (m : Setting → Reads (Unit {0})) (a : Loader) (b : Filler) (answer : Result (Unit {0}) Refusal) (z : Loader) (t : Filler) : Type 0 where
  pub fills : Fills (λ c. m (within a.scope c)) b answer t
  pub scope : z.scope ≡ a.scope

-- so it did; the permitted depth is again what it was, and so are the levels outside it
pub record Valued (m : Setting → Reads (Unit {0})) (a : Loader) (b : Filler) (d : Depth) (answer : Result (Unit {0}) Refusal) (z : Loader) (t : Filler) (e : Depth) : Type 0 where
  pub read : Read m a b answer z t
  pub depth : e.left ≡ d.left
  pub levels : Untouched d.left a.levels z.levels
