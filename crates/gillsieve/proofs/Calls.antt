-- What the calls on a store say, as calls on a draft.
use Rattle.std.proofs.Common.{◌≡◌, ℕ, List, [], ◌∷◌, length, Ok, Err, Result, sym, refl, ap, ◌∙◌, subst}
use Rattle.std.specs.Result.{IsErrAnd}
use Rattle.std.proofs.lemmas.Result.{err_from_is_err_and}
use Rattle.refusal.specs.declared.Part.TheVariants.{Draft as DraftPart}
use Rattle.refusal.specs.declared.Reason.{Reason}
use Rattle.refusal.specs.declared.Refusal.{Refusal}
use Rattle.refusal.specs.Numbers.{number}
use Rattle.steps.specs.Steps.{Tag, Begun, Step, begin, close, Steps}
use Rattle.steps.specs.Outline.{values}
use Rattle.steps.specs.Law.{Memory, refusal, Stepped}
use Rattle.document.specs.Standing.{Took, TookBack}
use Rattle.redbin.proofs.Meant.{gives_file_steps}
use Rattle.save.specs.Saves.{Saved}
use Rattle.load_file.specs.Files.{Loaded, Untouched as StoreUntouched}
use Rattle.gillsieve.specs.declared.draft.Draft.{Draft}
use Rattle.gillsieve.specs.Drafts.{steps_of, memory_of}
use Rattle.gillsieve.specs.Events.{began, closed, taken_back, loaded, saved, loaded_as, earlier, after, back_refusal, Answered, answered, Untouched, Did}

-- a draft is its store
same_draft : (d e : Draft) → e.store ≡ d.store → e ≡ d
same_draft d e p = ap (λ s. record { store = s }) p

-- a refusal that goes on by `?` names the draft, and no place in it
pub answered_err : {X : Type 0} (r : Result X Reason) (q : Result X Refusal) (why : Reason) → r ≡ Err why → IsErrAnd q (λ f. f ≡ record { reason = why; part = DraftPart; place = 0 }) → q ≡ answered r
answered_err r q why e h = let f = err_from_is_err_and q h in f.1 ∙ ap Err f.2 ∙ sym (ap answered e)

-- the answer of a step by the law
answer_by : {X : Type 0} (m : Memory) (s : Step) (before «after» : Steps) (r : Result X Reason) (x : X) → Stepped m s before r x «after» → Answered (refusal m before s) x (answered r)
answer_by m s before «after» (Ok y) x l = rw l.0 l.1
answer_by m s before «after» (Err why) x l = rw l.0 (refl, refl, refl)

-- put, open and share
pub did_begin : (d e : Draft) (l : Tag) (b : Begun) (r : Result ℕ Reason) (q : Result ℕ Refusal) → q ≡ answered r → Took d.store (begin l b) (length (values (steps_of d))) r e.store → Did d (began l b q) e
did_begin d e l b r q p t = subst (λ q. Did d (began l b q) e) (sym p) (by r t) where
  by : (r : Result ℕ Reason) → Took d.store (begin l b) (length (values (steps_of d))) r e.store → Did d (began l b (answered r)) e
  by (Ok n) t = record { memory = t.memory; steps = t.law.2; answer = answer_by (memory_of d) (begin l b) (steps_of d) (steps_of e) (Ok n) _ t.law; stays = tt }
  by (Err why) t = record { memory = t.memory; steps = t.law.1; answer = answer_by (memory_of d) (begin l b) (steps_of d) (steps_of e) (Err why) _ t.law; stays = same_draft d e t.still }

pub did_close : (d e : Draft) (r : Result (Unit {0}) Reason) (q : Result (Unit {0}) Refusal) → q ≡ answered r → Took d.store close tt r e.store → Did d (closed q) e
did_close d e r q p t = subst (λ q. Did d (closed q) e) (sym p) (by r t) where
  by : (r : Result (Unit {0}) Reason) → Took d.store close tt r e.store → Did d (closed (answered r)) e
  by (Ok u) t = record { memory = t.memory; steps = t.law.2; answer = answer_by (memory_of d) close (steps_of d) (steps_of e) (Ok u) tt t.law; stays = tt }
  by (Err why) t = record { memory = t.memory; steps = t.law.1; answer = answer_by (memory_of d) close (steps_of d) (steps_of e) (Err why) tt t.law; stays = same_draft d e t.still }

pub did_take_back : (d e : Draft) (r : Result (Unit {0}) Reason) (q : Result (Unit {0}) Refusal) → q ≡ answered r → TookBack d.store r e.store → Did d (taken_back q) e
did_take_back d e r q p t = subst (λ q. Did d (taken_back q) e) (sym p) (by r t) where
  by : (r : Result (Unit {0}) Reason) → TookBack d.store r e.store → Did d (taken_back (answered r)) e
  by (Ok u) t =
      let h = t.law.1 in
      record { memory = t.memory; steps = sym (ap earlier h); answer = subst (λ s. Answered (back_refusal s) tt (Ok u)) (sym h) refl; stays = tt }
  by (Err why) t =
      let h = t.law.1 in
      record { memory = t.memory; steps = t.law.2 ∙ sym h; answer = subst (λ s. Answered (back_refusal s) tt (answered (Err why))) (sym h) (ap number t.law.0, refl, refl); stays = same_draft d e t.still }

-- load
untouched : (s : Steps) (d e : Draft) → StoreUntouched s d.store e.store → Untouched s d e
untouched [] d e h = tt
untouched (x ∷ s) d e h = same_draft d e h

pub did_load : (d e : Draft) (file : List ℕ) (r : Result (Unit {0}) Refusal) → Loaded d.store file r e.store → Did d (loaded file r) e
did_load d e file (Ok u) l = record {
  memory = l.memory;
  steps = (gives_file_steps (memory_of d) (steps_of d) file (steps_of e) l.comes).1;
  answer = sym (ap loaded_as l.comes);
  stays = untouched (steps_of d) d e l.untouched;
}
did_load d e file (Err w) l = record {
  memory = l.memory;
  steps = l.stays;
  answer = sym (ap loaded_as l.comes);
  stays = untouched (steps_of d) d e l.untouched;
}

-- save
pub did_save : (d : Draft) (out out' : List ℕ) (r : Result ℕ Reason) (q : Result ℕ Refusal) → q ≡ answered r → Saved (steps_of d) out r out' → Did d (saved out out' q) d
did_save d out out' r q p t = subst (λ q. Did d (saved out out' q) d) (sym p) (by r t) where
  by : (r : Result ℕ Reason) → Saved (steps_of d) out r out' → Did d (saved out out' (answered r)) d
  by (Ok n) t = record { memory = refl; steps = refl; answer = (rw t.0 t.1, t.2); stays = refl }
  by (Err why) t = record { memory = refl; steps = refl; answer = (rw t.0 (refl, refl, refl), t.1); stays = refl }
