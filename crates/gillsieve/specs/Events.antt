-- Calls with their arguments and answers, what they do to the steps, and what they do to a draft.
use Rattle.std.specs.Prelude.{◌≡◌, ℕ, ◌<◌, Bool, false, cond, List, [], ◌∷◌, ◌++◌, length, take, pos, Some, None, Ok, Err, Option, Result, slice_index_or}
use Rattle.refusal.specs.declared.Reason.{Reason}
use Rattle.refusal.specs.declared.Reason.TheVariants.{StillOpen, NothingThere, DoesNotFit, NotTuning}
use Rattle.refusal.specs.declared.Part.TheVariants.{Draft as DraftPart}
use Rattle.refusal.specs.declared.Refusal.{Refusal}
use Rattle.refusal.specs.Numbers.{number}
use Rattle.steps.specs.Steps.{Tag, Begun, begin, close, Steps}
use Rattle.steps.specs.Outline.{values}
use Rattle.steps.specs.Law.{Memory, refusal}
use Rattle.redbin.specs.Canonical.{canonical}
use Rattle.redbin.specs.Reading.{because, load, file_steps}
use Rattle.save.specs.Saves.{all_closed, save_refusal, with_file}
use Rattle.listing.specs.Pairs.{Pair, pair}
use Rattle.listing.specs.Listings.{AddedAll}
use Rattle.delays.specs.Delays.{delays, offender}
use Rattle.gillsieve.specs.declared.draft.Draft.{Draft}
use Rattle.gillsieve.specs.Drafts.{steps_of, memory_of}

-- a call on a draft: its arguments, its answer, and what it changed beside the draft
pub data Event : Type 0 where
  -- put, open or share: the label, the value, and its number
  began : Tag → Begun → Result ℕ Refusal → Event
  closed : Result (Unit {0}) Refusal → Event
  taken_back : Result (Unit {0}) Refusal → Event
  -- the file
  loaded : List ℕ → Result (Unit {0}) Refusal → Event
  -- the output before and after, and the size of the file in it
  saved : List ℕ → List ℕ → Result ℕ Refusal → Event
  -- what the listing meant before and after
  printed : List Pair → List Pair → Result (Unit {0}) Refusal → Event

abbrev pub earlier : Steps → Steps
earlier [] = []
earlier (s ∷ e) = e

-- the steps after a call, by its arguments and whether it was accepted
abbrev pub after : Event → Steps → Steps
after (began l b (Ok n)) e = begin l b ∷ e
after (began l b (Err why)) e = e
after (closed (Ok u)) e = close ∷ e
after (closed (Err why)) e = e
after (taken_back (Ok u)) e = earlier e
after (taken_back (Err why)) e = e
after (loaded file (Ok u)) e = file_steps file
after (loaded file (Err why)) e = e
after (saved out out' r) e = e
after (printed ps ps' r) e = e

-- why a take back is refused: no step stands
abbrev pub back_refusal : Steps → Option Reason
back_refusal [] = Some NothingThere
back_refusal (s ∷ e) = None

-- accepted with the answer x, where nothing is against it; else refused with that reason's number, in the part `draft` at place 0
abbrev pub Answered : {X : Type 0} → Option Reason → X → Result X Refusal → Type 0
Answered None x (Ok y) = y ≡ x
Answered None x (Err r) = ⊥
Answered (Some why) x (Ok y) = ⊥
Answered (Some why) x (Err r) = (number r.reason ≡ number why) × (r.part ≡ DraftPart) × (r.place ≡ 0)

-- a refusal for this reason, in the part `draft` at place 0
abbrev pub answered : {X : Type 0} → Result X Reason → Result X Refusal
answered (Ok x) = Ok x
answered (Err why) = Err (record { reason = why; part = DraftPart; place = 0 })

-- ---- load

-- a load answers nothing, or why the file is refused
abbrev pub loaded_as : Result Steps Refusal → Result (Unit {0}) Refusal
loaded_as (Ok e) = Ok tt
loaded_as (Err r) = Err r

-- ---- save

-- the output after a save: the file at its start, and behind it what was there; after a refused one all that was there
abbrev pub written : {X : Type 0} → Steps → List ℕ → Result X Refusal → List ℕ
written e out (Ok x) = with_file e out
written e out (Err r) = out

-- ---- print

-- no tuning document: a value offends, and its number is the place of the refusal
abbrev pub not_tuning : Option ℕ → Option Refusal
not_tuning None = None
not_tuning (Some n) = Some (because NotTuning DraftPart n)

-- why a print is refused before it gives a delay to the listing: something is open; no tuning document
abbrev pub print_refusal : Steps → Option Refusal
print_refusal e = cond (all_closed e) (not_tuning (offender (values e))) (Some (because StillOpen DraftPart 0))

-- a print of these pairs, with what stands against it and what the listing meant before and after: refused for that, and nothing gained; or all pairs gained; or those before one that does not fit, for which it is refused
abbrev pub Printed : Option Refusal → List Pair → List Pair → List Pair → Result (Unit {0}) Refusal → Type 0
Printed (Some why) ps before «after» r = (r ≡ Err why) × («after» ≡ before)
Printed None ps before «after» (Ok u) = «after» ≡ before ++ ps
Printed None ps before «after» (Err r) = Answered {X = Unit {0}} (Some DoesNotFit) tt (Err r) × ((k : ℕ) × (k < length ps) × («after» ≡ before ++ take k ps))

-- the same by the listing itself, from `s` to `t`: it is as it was; or it took all pairs; or those before the one at k, which does not fit it
abbrev pub Listed : {S : Type 0} (meaning : S → List Pair) (holds : S → Pair → Bool) (leaves : S → Pair → S → Type 0) → Option Refusal → S → List Pair → S → Result (Unit {0}) Refusal → Type 0
Listed meaning holds leaves (Some why) s ps t r = t ≡ s
Listed meaning holds leaves None s ps t (Ok u) = AddedAll meaning holds leaves s ps t
Listed meaning holds leaves None s ps t (Err r) =
    (k : ℕ) × (k < length ps) × AddedAll meaning holds leaves s (take k ps) t × (holds t (slice_index_or ps k (pair [] (pos 0))) ≡ false)

-- ---- every call

-- what a call on a draft with this memory, where these steps stand, answers, and what it changes beside the draft
abbrev pub Right : Memory → Steps → Event → Type 0
Right m e (began l b r) = Answered (refusal m e (begin l b)) (length (values e)) r
Right m e (closed r) = Answered (refusal m e close) tt r
Right m e (taken_back r) = Answered (back_refusal e) tt r
Right m e (loaded file r) = r ≡ loaded_as (load m e file)
Right m e (saved out out' r) = Answered (save_refusal e out) (length (canonical e)) r × (out' ≡ written e out r)
Right m e (printed ps ps' r) = Printed (print_refusal e) (delays (values e)) ps ps' r

-- a refused call leaves the whole draft as it was
abbrev pub Still : {X : Type 0} → Result X Refusal → Draft → Draft → Type 0
Still (Ok x) d e = Unit {0}
Still (Err r) d e = e ≡ d

-- so does a load where steps stand; any other that is refused leaves its steps and the lent memory
abbrev pub Untouched : Steps → Draft → Draft → Type 0
Untouched [] d e = Unit {0}
Untouched (s ∷ steps) d e = e ≡ d

-- a save and a print always do
abbrev pub Stays : Event → Draft → Draft → Type 0
Stays (began l b r) d e = Still r d e
Stays (closed r) d e = Still r d e
Stays (taken_back r) d e = Still r d e
Stays (loaded file r) d e = Untouched (steps_of d) d e
Stays (saved out out' r) d e = e ≡ d
Stays (printed ps ps' r) d e = e ≡ d

-- a call was made on the draft `d`, which is `e` then
pub record Did (d : Draft) (c : Event) (e : Draft) : Type 0 where
  pub memory : memory_of e ≡ memory_of d
  pub steps : steps_of e ≡ after c (steps_of d)
  pub answer : Right (memory_of d) (steps_of d) c
  pub stays : Stays c d e
