-- The steps that stand in a store, and what its calls do to it.
use Rattle.std.specs.Prelude.{◌≡◌, ℕ, ◌+◌, Bool, true, false, List, [], ◌∷◌, ◌++◌, length, take, Ok, Err, Result}
use Rattle.refusal.specs.declared.Reason.{Reason}
use Rattle.document.specs.declared.store.Store.{Store}
use Rattle.steps.specs.declared.parts.Sort.{Sort}
use Rattle.steps.specs.Steps.{Begun, Step, Steps}
use Rattle.steps.specs.Law.{Memory, Stepped, Unstepped}
use Rattle.steps.specs.Items.{free}
use Rattle.steps.specs.Build.{Built, steps, span_of, begun_with}
use Rattle.document.specs.Stands.{lent_of, used_of}

-- the part of a store that is in use
abbrev pub in_use : Store → Built
in_use s = used_of s.cells s.codepoints s.names s.innermost s.depth

-- the steps that stand, the newest first
abbrev pub standing : Store → Steps
standing s = steps (in_use s)

abbrev pub none_stands : Steps → Bool
none_stands [] = true
none_stands (s ∷ e) = false

-- the memory that its owner lends
abbrev pub memory_lent : Store → Memory
memory_lent s = lent_of s.cells s.codepoints s.names

-- with one more step a store becomes another
pub record Grown (s : Store) (step : Step) (t : Store) : Type 0 where
  pub memory : memory_lent t ≡ memory_lent s
  pub told : standing t ≡ step ∷ standing s

-- without its newest step a store becomes another
pub record Shrunk (s t : Store) : Type 0 where
  pub memory : memory_lent t ≡ memory_lent s
  pub step : Step
  pub told : standing s ≡ step ∷ standing t

-- without any step a store becomes another
pub record Emptied (s t : Store) : Type 0 where
  pub memory : memory_lent t ≡ memory_lent s
  pub told : standing t ≡ []

-- a refused call leaves the store as it was
abbrev pub Still : {X : Type 0} → Result X Reason → Store → Store → Type 0
Still (Ok x) s t = Unit {0}
Still (Err why) s t = t ≡ s

-- a call that adds a step, with this answer, took a store to another
pub record Took {X : Type 0} (s : Store) (step : Step) (answer : X) (r : Result X Reason) (t : Store) : Type 0 where
  pub memory : memory_lent t ≡ memory_lent s
  pub law : Stepped (memory_lent s) step (standing s) r answer (standing t)
  pub still : Still r s t

-- a call that takes the newest step back took a store to another
pub record TookBack {X : Type 0} (s : Store) (r : Result X Reason) (t : Store) : Type 0 where
  pub memory : memory_lent t ≡ memory_lent s
  pub law : Unstepped (standing s) r (standing t)
  pub still : Still r s t

-- ---- a value added part by part

-- the codepoints in memory that is not in use
abbrev pub free_points : Store → List ℕ
free_points s = free s.codepoints

-- codepoints were copied into memory that is not in use
pub record Laid (s : Store) (xs : List ℕ) (t : Store) : Type 0 where
  pub memory : memory_lent t ≡ memory_lent s
  pub told : standing t ≡ standing s
  pub laid : take (length xs) (free_points t) ≡ xs

-- a codepoint was written behind `at` others into memory that is not in use
pub record Wrote (s : Store) (at point : ℕ) (t : Store) : Type 0 where
  pub memory : memory_lent t ≡ memory_lent s
  pub told : standing t ≡ standing s
  pub written : take (at + 1) (free_points t) ≡ take at (free_points s) ++ (point ∷ [])

-- the value of this sort whose codepoints are the first of the memory that is not in use
abbrev pub next_value : Store → Sort → Begun
next_value s sort = begun_with sort (take (span_of sort).len (free_points s))
