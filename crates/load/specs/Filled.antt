-- That a function read into a store what a definition says.
use Rattle.std.specs.Prelude.{◌≡◌, ℕ, ◌<◌, true, List, length, Ok, Err, Result}
use Rattle.refusal.specs.declared.Refusal.{Refusal}
use Rattle.steps.specs.Steps.{Steps, Name}
use Rattle.steps.specs.Outline.{opened}
use Rattle.steps.specs.Law.{deepest, name_ok}
use Rattle.document.specs.declared.store.Store.{Store}
use Rattle.document.specs.Standing.{standing, memory_lent}
use Rattle.redbin.specs.Reading.{Setting, Reads, got, refused, in_memory}
use Rattle.load.specs.declared.reader.Reader.{Reader}
use Rattle.load.specs.declared.filler.Filler.{Filler}
use Rattle.load.specs.Ran.{state, rest_of, size_of}

-- a reading came from these bytes and steps to this answer, and to those bytes and steps if it was not refused
abbrev pub Came : {A : Type 0} → Reads A → List ℕ → Steps → Result A Refusal → List ℕ → Steps → Type 0
Came m x e (Ok a) y f = m (state x e) ≡ got a (state y f)
Came m x e (Err w) y f = m (state x e) ≡ refused w

-- the next value in a store may have this name, and is not too deep
pub record Ready (b : Store) (name : Name) : Type 0 where
  pub named : name_ok (opened (standing b)) name ≡ true
  pub deep : length (opened (standing b)) < deepest

-- a call that reads no bytes took a store to another, as a definition says
pub record Added (b : Store) (m : Setting → Reads (Unit {0})) (answer : Result (Unit {0}) Refusal) (t : Store) : Type 0 where
  pub memory : memory_lent t ≡ memory_lent b
  pub came : (c : Setting) (bytes : List ℕ) → c.uses ≡ in_memory (memory_lent b) → Came (m c) bytes (standing b) answer bytes (standing t)

-- a call took a reader and a store to others, as a definition says
pub record Filled {A : Type 0} (r : Reader) (b : Store) (m : Setting → Reads A) (answer : Result A Refusal) (s : Reader) (t : Store) : Type 0 where
  pub file : s.file ≡ r.file
  pub memory : memory_lent t ≡ memory_lent b
  pub came : (c : Setting) → c.size ≡ size_of r → c.uses ≡ in_memory (memory_lent b) → Came (m c) (rest_of r) (standing b) answer (rest_of s) (standing t)

-- a call took a filler to another, as a definition says; it fills the same store
pub record Fills {A : Type 0} (m : Setting → Reads A) (a : Filler) (answer : Result A Refusal) (z : Filler) : Type 0 where
  pub filled : Filled a.reader a.store.now m answer z.reader z.store.now
  pub lent : z.store.ghost_name ≡ a.store.ghost_name

-- the records of a payload of this size
abbrev pub with_payload : ℕ → Setting → Setting
with_payload n c = record { size = c.size; uses = c.uses; table = c.table; payload = n }
