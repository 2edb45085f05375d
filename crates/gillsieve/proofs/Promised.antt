-- The promise over histories.
use Rattle.std.proofs.Common.{◌≡◌, ℕ, ◌≤◌, Bool, true, false, not, ◌&&◌, ltb, leb, List, [], ◌∷◌, ◌++◌, length, take, drop, IfOk, Some, None, Ok, Err, Option, Result, sym, refl, ap, ◌∙◌, subst, arith, length-append, length-drop}
use Rattle.std.proofs.lemmas.Bool.Decides.{nat_tests}
use Rattle.std.proofs.lemmas.List.{take_at, drop_at}
use Rattle.std.proofs.lemmas.Bool.{leb-true}
use Rattle.refusal.specs.declared.Reason.{Reason}
use Rattle.refusal.specs.declared.Reason.TheVariants.{StillOpen, DoesNotFit}
use Rattle.refusal.specs.declared.Refusal.{Refusal}
use Rattle.steps.specs.Steps.{Steps}
use Rattle.steps.specs.Outline.{Opened, opened, values}
use Rattle.steps.specs.Law.{Memory, Lawful, Closed, unless}
use Rattle.redbin.specs.Layout.{largest_file}
use Rattle.redbin.specs.Canonical.{canonical}
use Rattle.redbin.specs.Reading.{load}
use Rattle.redbin.specs.Promises.{Fits, Writable}
use Rattle.redbin.proofs.Elsewhere.{reads_back, tells_apart}
use Rattle.redbin.proofs.Meant.{gives_file_steps}
use Rattle.listing.specs.Pairs.{Pair}
use Rattle.listing.specs.Listings.{Fresh, BothMean}
use Rattle.delays.specs.Delays.{delays}
use Rattle.gillsieve.specs.declared.draft.Draft.{Draft}
use Rattle.gillsieve.specs.Drafts.{steps_of, memory_of}
use Rattle.save.specs.Saves.{all_closed, save_refusal}
use Rattle.gillsieve.specs.Events.{Event, loaded, saved, printed, after, Answered, Right, Did, loaded_as, Printed}
use Rattle.gillsieve.specs.Histories.{History, reckoned, Call, steps_at, Wrote, Promise}

-- ---- a history's draft is as its calls say

pub told : (m : Memory) (calls : List Event) (d : Draft) → History m calls d → (memory_of d ≡ m) × (steps_of d ≡ reckoned calls)
told m [] d p = (p.memory, p.steps)
told m (c ∷ calls) d p = let t = told m calls p.0 p.1 in (p.2.memory ∙ t.0, p.2.steps ∙ ap (after c) t.1)

-- the draft before a call of a history, and the one after it
record Before (m : Memory) (c : Event) (earlier : List Event) : Type 0 where
  draft : Draft
  next : Draft
  history : History m earlier draft
  did : Did draft c next

within : (m : Memory) (c : Event) (later earlier : List Event) (d : Draft) → History m (later ++ (c ∷ earlier)) d → Before m c earlier
within m c [] earlier d p = record { draft = p.0; next = d; history = p.1; did = p.2 }
within m c (x ∷ later) earlier d p = within m c later earlier p.0 p.1

found : (m : Memory) (calls : List Event) (d : Draft) (c : Event) (x : Call calls c) → History m calls d → Before m c x.earlier
found m calls d c x p = within m c x.later x.earlier d (subst (λ l. History m l d) x.parts p)

-- each call answers by the memory lent and the steps reckoned
right : (m : Memory) (c : Event) (earlier : List Event) → Before m c earlier → Right m (reckoned earlier) c
right m c earlier b =
    let t = told m earlier b.draft b.history in
    subst (λ n. Right n (reckoned earlier) c) t.0 (subst (λ s. Right (memory_of b.draft) s c) t.1 b.did.answer)

-- the steps reckoned are lawful: the draft keeps that of its own
lawful : (m : Memory) (c : Event) (earlier : List Event) → Before m c earlier → (k : Memory) × Lawful k (reckoned earlier)
lawful m c earlier b =
    let d = b.draft in
    (memory_of d, subst (Lawful (memory_of d)) (told m earlier d b.history).1 d.store.stands.lawful)

-- ---- saves

none_open : (os : List Opened) → not (ltb 0 (length os)) ≡ true → os ≡ []
none_open [] e = refl
none_open (o ∷ os) e = let z : ◌≡◌ {A = ℕ} 0 1 = grind (arith, nat_tests) in absurd (omega (arith, z))

passed : (b : Bool) (why : Reason) (next : Option Reason) → unless b why next ≡ None → (b ≡ true) × (next ≡ None)
passed true why next e = (refl, e)
passed false why next e = absurd cc

both : (a b : Bool) → a && b ≡ true → (a ≡ true) × (b ≡ true)
both true true e = (refl, refl)
both true false e = (refl, e)
both false b e = let z : false ≡ true = e in (z, cc)

answered_none : {X : Type 0} (o : Option Reason) (x y : X) → Answered o x (Ok y) → (o ≡ None) × (y ≡ x)
answered_none None x y a = (refl, a)
answered_none (Some why) x y a = absurd a

-- what an accepted save says of the steps
record Written (e : Steps) (out out' : List ℕ) (k : ℕ) : Type 0 where
  closed : Closed e
  small : length (canonical e) ≤ largest_file
  fits : length (canonical e) ≤ length out
  size : k ≡ length (canonical e)
  is : out' ≡ canonical e ++ drop (length (canonical e)) out

written : (m : Memory) (e : Steps) (out out' : List ℕ) (k : ℕ) → Right m e (saved out out' (Ok k)) → Written e out out' k
written m e out out' k p =
    let n = length (canonical e) in
    let a = answered_none (save_refusal e out) n k p.0 in
    let c = passed (all_closed e) StillOpen _ a.0 in
    let f = both (leb n (length out)) (leb n largest_file) (passed _ DoesNotFit None c.1).0 in
    record { closed = none_open (opened e) c.0; small = leb-true n largest_file f.1; fits = leb-true n (length out) f.0; size = a.1; is = p.1 }

wrote : (e : Steps) (out out' : List ℕ) (k : ℕ) → Written e out out' k → Wrote (canonical e) out out' k
wrote e out out' k w =
    let f = canonical e in
    record {
      sized = w.size;
      start = ap (take k) w.is ∙ take_at f (drop (length f) out) k (sym w.size);
      behind = ap (drop k) w.is ∙ drop_at f (drop (length f) out) k (sym w.size) ∙ ap (λ n. drop n out) (sym w.size);
      whole = ap length w.is ∙ simp (length-append, length-drop) (omega (arith, w.fits));
    }

-- an accepted save that a history has
record Kept (m : Memory) (earlier : List Event) (out out' : List ℕ) (k : ℕ) : Type 0 where
  writable : Writable (reckoned earlier)
  wrote : Wrote (canonical (reckoned earlier)) out out' k

kept : (m : Memory) (earlier : List Event) (out out' : List ℕ) (k : ℕ) → Before m (saved out out' (Ok k)) earlier → Kept m earlier out out' k
kept m earlier out out' k b =
    let c = saved out out' (Ok k) in
    let e = reckoned earlier in
    let w = written m e out out' k (right m c earlier b) in
    record { writable = (lawful m c earlier b, w.closed, w.small); wrote = wrote e out out' k w }

-- ---- loads

taken_in : (n : Memory) (e before : Steps) (file : List ℕ) (r : Result (Unit {0}) Refusal) → Writable e → file ≡ canonical e → before ≡ [] → Fits n e → Right n before (loaded file r) → (r ≡ Ok tt) × (after (loaded file r) before ≡ e)
taken_in n e before file r w f z fits q =
    let l : load n [] file ≡ Ok e = ap (load n []) f ∙ reads_back n e w fits in
    let a : r ≡ Ok tt = q ∙ ap (λ s. loaded_as (load n s file)) z ∙ ap loaded_as l in
    (a, ap (λ x. after (loaded file x) before) a ∙ sym (gives_file_steps n [] file e l).1)

-- ---- prints

printed_all : (o : Option Refusal) (ps before after' : List Pair) → Printed o ps before after' (Ok tt) → after' ≡ before ++ ps
printed_all None ps before after' p = p
printed_all (Some why) ps before after' p = let q = p.0 in absurd cc

-- ---- two histories

pub promised : {A B : Type 0} (a : A → List Pair) (b : B → List Pair) → Promise a b
promised a b m n g h d e p q = record {
  stands = told m g d p;
  answers = λ c x. right m c x.earlier (found m g d c x p);
  files = λ out out' j x. (kept m x.earlier out out' j (found m g d _ x p)).wrote;
  same = λ out out' j x o o' k y.
      let u = kept m x.earlier out out' j (found m g d _ x p) in
      let v = kept n y.earlier o o' k (found n h e _ y q) in (
        (λ f. tells_apart (steps_at x) (steps_at y) u.writable v.writable (sym u.wrote.start ∙ f ∙ v.wrote.start)),
        (λ f. u.wrote.start ∙ ap canonical f ∙ sym v.wrote.start),
      );
  back = λ out out' j x r y z l.
      let u = kept m x.earlier out out' j (found m g d _ x p) in
      taken_in n (steps_at x) (steps_at y) (take j out') r u.writable u.wrote.start z l (right n _ y.earlier (found n h e _ y q));
  lists = λ s s' x t t' y f u v.
      let i = printed_all _ (delays (values (steps_at x))) (a s) (a s') (right m _ x.earlier (found m g d _ x p)) ∙ ap (λ l. l ++ delays (values (steps_at x))) u in
      let k = printed_all _ (delays (values (steps_at y))) (b t) (b t') (right n _ y.earlier (found n h e _ y q)) ∙ ap (λ l. l ++ delays (values (steps_at y))) v in
      (i ∙ ap (λ s. delays (values s)) f ∙ sym k, i);
}

-- ---- what the promise gives to its callers

abbrev newest : (c : Event) (calls : List Event) → Call (c ∷ calls) c
newest c calls = record { later = []; earlier = calls; parts = refl }

-- one draft is printed into two listings
pub both_printed : {A B : Type 0} (a : A → List Pair) (b : B → List Pair) → Promise a b → (d : Draft) (s s' : A) (t t' : B) (r : Result (Unit {0}) Refusal) → Did d (printed (a s) (a s') (Ok tt)) d → Did d (printed (b t) (b t') r) d → (m : Memory) (calls : List Event) → History m calls d → Fresh a s → Fresh b t → IfOk r (λ u. BothMean (a s') (b t') (delays (values (reckoned calls))))
both_printed a b k d s s' t t' (Ok u) x y m calls p f f' =
    (k m m (printed (a s) (a s') (Ok tt) ∷ calls) (printed (b t) (b t') (Ok tt) ∷ calls) d d (d, p, x) (d, p, y)).lists s s' (newest _ calls) t t' (newest _ calls) refl f f'
both_printed a b k d s s' t t' (Err why) x y m calls p f f' = tt
