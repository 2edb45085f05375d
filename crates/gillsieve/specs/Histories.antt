-- Histories of calls on a draft, the steps reckoned from the calls alone, and the promise over every two histories.
use Rattle.std.specs.Prelude.{◌≡◌, ℕ, List, [], ◌∷◌, ◌++◌, length, take, drop, Ok, Result}
use Rattle.refusal.specs.declared.Refusal.{Refusal}
use Rattle.steps.specs.Steps.{Steps}
use Rattle.steps.specs.Outline.{values}
use Rattle.steps.specs.Law.{Memory}
use Rattle.redbin.specs.Canonical.{canonical}
use Rattle.redbin.specs.Promises.{Fits}
use Rattle.listing.specs.Pairs.{Pair}
use Rattle.listing.specs.Listings.{Fresh, BothMean}
use Rattle.delays.specs.Delays.{delays}
use Rattle.gillsieve.specs.declared.draft.Draft.{Draft}
use Rattle.gillsieve.specs.Drafts.{steps_of, memory_of}
use Rattle.gillsieve.specs.Events.{Event, loaded, saved, printed, after, Right, Did}

-- ---- histories: lists of calls, of which the newest stands first

-- a draft was made with this memory
pub record Made (m : Memory) (d : Draft) : Type 0 where
  pub memory : memory_of d ≡ m
  pub steps : steps_of d ≡ []

-- a draft was made with this memory, then these calls were made on it, each on what the one before had left, and it is `d` then
abbrev pub History : Memory → List Event → Draft → Type 0
History m [] d = Made m d
History m (c ∷ calls) d = (before : Draft) × History m calls before × Did before c d

-- the steps that stand after these calls: by their arguments, the files that they loaded, and whether each was accepted
abbrev pub reckoned : List Event → Steps
reckoned [] = []
reckoned (c ∷ calls) = after c (reckoned calls)

-- a call among these, and the calls before it
pub record Call (calls : List Event) (c : Event) : Type 0 where
  pub later : List Event
  pub earlier : List Event
  pub parts : calls ≡ later ++ (c ∷ earlier)

-- the steps that stood where it was made
abbrev pub steps_at : {calls : List Event} {c : Event} → Call calls c → Steps
steps_at x = reckoned x.earlier

-- ---- the promise

-- a file of `size` bytes was written at the start of an output, and nothing behind it changed
pub record Wrote (file out out' : List ℕ) (size : ℕ) : Type 0 where
  pub sized : size ≡ length file
  pub start : take size out' ≡ file
  pub behind : drop size out' ≡ drop size out
  pub whole : length out' ≡ length out

-- what holds of two histories, with memories m and n, calls g and h, and drafts d and e: of each call in them, wherever it stands
pub record Keeps {A B : Type 0} (a : A → List Pair) (b : B → List Pair) (m n : Memory) (g h : List Event) (d e : Draft) : Type 0 where
  -- the draft has the memory that it was made with, and the steps reckoned from the calls
  pub stands : (memory_of d ≡ m) × (steps_of d ≡ reckoned g)
  -- each call answered, and changed outputs and listings, as that memory and the steps reckoned from the calls before it say
  pub answers : (c : Event) (x : Call g c) → Right m (steps_at x) c
  -- an accepted save wrote the canonical form of its steps, and answered its size
  pub files :
      (out out' : List ℕ) (j : ℕ) (x : Call g (saved out out' (Ok j)))
      → Wrote (canonical (steps_at x)) out out' j
  -- a file that the one saved and a file that the other saved are equal exactly when the steps of both are
  pub same :
      (out out' : List ℕ) (j : ℕ) (x : Call g (saved out out' (Ok j)))
      → (o o' : List ℕ) (k : ℕ) (y : Call h (saved o o' (Ok k)))
      → (take j out' ≡ take k o' → steps_at x ≡ steps_at y) × (steps_at x ≡ steps_at y → take j out' ≡ take k o')
  -- a file that the one saved, loaded by the other where no step stands and with memory for all that the saved steps use, is accepted, and gives it the same steps
  pub back :
      (out out' : List ℕ) (j : ℕ) (x : Call g (saved out out' (Ok j)))
      → (r : Result (Unit {0}) Refusal) (y : Call h (loaded (take j out') r))
      → steps_at y ≡ [] → Fits n (steps_at x)
      → (r ≡ Ok tt) × (reckoned (loaded (take j out') r ∷ y.earlier) ≡ steps_at x)
  -- accepted prints of equal steps into fresh listings, which mean pairs by `a` and by `b`, leave both meaning the delays of the document
  pub lists :
      (s s' : A) (x : Call g (printed (a s) (a s') (Ok tt)))
      → (t t' : B) (y : Call h (printed (b t) (b t') (Ok tt)))
      → steps_at x ≡ steps_at y → Fresh a s → Fresh b t
      → BothMean (a s') (b t') (delays (values (steps_at x)))

-- every two histories keep this, whatever memory each draft was made with, for every two kinds of listings
abbrev pub Promise : {A B : Type 0} → (A → List Pair) → (B → List Pair) → Type 0
Promise a b = (m n : Memory) (g h : List Event) (d e : Draft) → History m g d → History n h e → Keeps a b m n g h d e
