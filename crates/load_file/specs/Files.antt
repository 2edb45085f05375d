-- Whole files read into a store.
use Rattle.std.specs.Prelude.{◌≡◌, ℕ, List, [], ◌∷◌, Ok, Err, Result}
use Rattle.refusal.specs.declared.Refusal.{Refusal}
use Rattle.steps.specs.Steps.{Steps}
use Rattle.document.specs.declared.store.Store.{Store}
use Rattle.document.specs.Standing.{standing, memory_lent}
use Rattle.redbin.specs.Reading.{Setting, in_memory, answer, records, read, load}
use Rattle.load.specs.declared.reader.Reader.{Reader}
use Rattle.load.specs.Ran.{state, rest_of, size_of}
use Rattle.load_file.specs.declared.scope.Scope.{Scope}
use Rattle.load_file.specs.Scopes.{within}

-- reading came to these steps, or to a refusal
abbrev pub Comes : Result Steps Refusal → Result (Unit {0}) Refusal → Steps → Type 0
Comes x (Ok u) e = x ≡ Ok e
Comes x (Err w) e = x ≡ Err w

-- the records of a payload were read into a store
pub record ReadPayload (r : Reader) (k : Scope) (n : ℕ) (s : Store) (answered : Result (Unit {0}) Refusal) (t : Store) : Type 0 where
  pub memory : memory_lent t ≡ memory_lent s
  pub comes : (c : Setting) → c.size ≡ size_of r → c.uses ≡ in_memory (memory_lent s) → Comes (answer (records (within k c) n (state (rest_of r) (standing s)))) answered (standing t)

-- a file was read into an empty store; after a refusal what stands in the store is left open
pub record ReadFile (s : Store) (file : List ℕ) (r : Result (Unit {0}) Refusal) (t : Store) : Type 0 where
  pub memory : memory_lent t ≡ memory_lent s
  pub comes : Comes (read (in_memory (memory_lent s)) file) r (standing t)

-- a load that is refused leaves the steps as they were
abbrev pub Stays : Result (Unit {0}) Refusal → Steps → Steps → Type 0
Stays (Ok u) before after = Unit {0}
Stays (Err w) before after = after ≡ before

-- where steps stand the whole store is as it was
abbrev pub Untouched : Steps → Store → Store → Type 0
Untouched [] s t = Unit {0}
Untouched (x ∷ e) s t = t ≡ s

-- load was called on a store: it answered what the definition says, and the steps are the file's; or it was refused, and the steps are those before
pub record Loaded (s : Store) (file : List ℕ) (r : Result (Unit {0}) Refusal) (t : Store) : Type 0 where
  pub memory : memory_lent t ≡ memory_lent s
  pub comes : Comes (load (memory_lent s) (standing s) file) r (standing t)
  pub stays : Stays r (standing s) (standing t)
  pub untouched : Untouched (standing s) s t
