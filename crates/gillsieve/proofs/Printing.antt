-- What a print does, by what the listing took.
use Rattle.std.proofs.Common.{◌≡◌, ℕ, zero, suc, ◌<◌, Bool, true, false, cond, not, ◌||◌, ltb, List, [], ◌∷◌, ◌++◌, length, get_or, take, pos, Some, None, Ok, Err, Option, Result, sym, refl, ap, ◌∙◌, append_assoc, arith}
use Rattle.std.proofs.lemmas.List.{append-nil}
use Rattle.refusal.specs.declared.Reason.{Reason}
use Rattle.refusal.specs.declared.Refusal.{Refusal}
use Rattle.refusal.specs.Numbers.{number}
use Rattle.steps.specs.declared.parts.Node.{Node}
use Rattle.steps.specs.declared.parts.Node.TheVariants.{Root, At}
use Rattle.steps.specs.Steps.{Tag, Begun, Steps}
use Rattle.steps.specs.Outline.{Entry, values, opened}
use Rattle.listing.specs.Pairs.{Pair, pair, good}
use Rattle.listing.specs.Listings.{refusal, AddedAll, Gave}
use Rattle.delays.specs.Delays.{listed, delay_in, one_or_none, delays, bad_pair, offends, or_else, offender}
use Rattle.gillsieve.specs.declared.draft.Draft.{Draft}
use Rattle.gillsieve.specs.Drafts.{steps_of}
use Rattle.gillsieve.specs.Events.{printed, answered, print_refusal, Printed, Listed, Did}

-- ---- the delays of a tuning document are good pairs

AllGood : List Pair → Type 0
AllGood [] = Unit {0}
AllGood (p ∷ ps) = (good p ≡ true) × AllGood ps

good_append : (ps qs : List Pair) → AllGood ps → AllGood qs → AllGood (ps ++ qs)
unfolding AllGood
good_append [] qs p q = q
good_append (x ∷ ps) qs p q = (p.0, good_append ps qs p.1 q)

good_at : (ps : List Pair) (k : ℕ) (d : Pair) → AllGood ps → k < length ps → good (get_or ps k d) ≡ true
unfolding AllGood
good_at [] k d p h = absurd (omega arith)
good_at (x ∷ ps) zero d p h = p.0
good_at (x ∷ ps) (suc k) d p h = good_at ps k d p.1 (omega arith)

good_pair : (b c : Bool) → not b || c ≡ false → b ≡ true
good_pair true c e = refl
good_pair false c e = sym e

one_pair : (before : List Pair) (o : Option Pair) → bad_pair before o ≡ false → AllGood (one_or_none o)
unfolding AllGood
one_pair before None e = tt
one_pair before (Some p) e = (good_pair (good p) (listed p.name before) e, tt)

one_good : (xs : List Entry) (l : Tag) (b : Begun) (h : Node) → offends xs (record { label = l; begun = b; holder = h }) ≡ false → AllGood (one_or_none (delay_in h l.name b))
unfolding AllGood
one_good xs l b Root e = tt
one_good xs l b (At n) e = one_pair (delays xs) (delay_in (At n) l.name b) e

neither : (o p : Option ℕ) → or_else o p ≡ None → (o ≡ None) × (p ≡ None)
neither None p e = (refl, e)
neither (Some n) p e = absurd cc

not_so : (b : Bool) (n : ℕ) → cond b (Some n) None ≡ None → b ≡ false
not_so true n e = absurd cc
not_so false n e = refl

delays_good : (xs : List Entry) → offender xs ≡ None → AllGood (delays xs)
unfolding AllGood delays offender
delays_good [] e = tt
delays_good (x ∷ xs) e =
    let n = neither (offender xs) (cond (offends xs x) (Some (length xs)) None) e in
    good_append (delays xs) _ (delays_good xs n.0) (one_good xs x.label x.begun x.holder (not_so (offends xs x) (length xs) n.1))

-- ---- what the listing took

refused_good : (e : Reason) (b c : Bool) → b ≡ true → Some (number e) ≡ refusal b c → (number e ≡ 20) × (c ≡ false)
refused_good e true true p q = absurd cc
refused_good e true false p q = (cc, refl)
refused_good e false c p q = absurd cc

module _ {S : Type 0} (m : S → List Pair) (h : S → Pair → Bool) (l : S → Pair → S → Type 0) where
  all_mean : (ps : List Pair) (s t : S) → AddedAll m h l s ps t → m t ≡ m s ++ ps
  all_mean [] s t g = ap m g ∙ sym (append-nil (m s))
  all_mean (p ∷ ps) s t g = all_mean ps g.0 t g.2 ∙ ap (λ x. x ++ ps) g.1.means ∙ append_assoc (m s) (p ∷ []) ps

  printed_by : (ps : List Pair) (s t : S) (r : Result (Unit {0}) Reason) → AllGood ps → Gave m h l s ps t r → Printed None ps (m s) (m t) (answered r)
  printed_by ps s t (Ok u) a g = all_mean ps s t g
  printed_by ps s t (Err e) a g =
      let n = refused_good e _ _ (good_at ps g.0 (pair [] (pos 0)) a g.1) g.3 in
      ((n.0, refl, refl), (g.0, g.1, all_mean (take g.0 ps) s t g.2))

  listed_by : (ps : List Pair) (s t : S) (r : Result (Unit {0}) Reason) → AllGood ps → Gave m h l s ps t r → Listed m h l None s ps t (answered r)
  listed_by ps s t (Ok u) a g = g
  listed_by ps s t (Err e) a g =
      let n = refused_good e _ _ (good_at ps g.0 (pair [] (pos 0)) a g.1) g.3 in
      (g.0, g.1, g.2, n.1)

  -- nothing stands against a print of these steps, whose delays were given to the listing
  pub record Giving (e : Steps) (s t : S) (r : Result (Unit {0}) Reason) (q : Result (Unit {0}) Refusal) : Type 0 where
    pub shut : ltb 0 (length (opened e)) ≡ false
    pub tuning : offender (values e) ≡ None
    pub gave : Gave m h l s (delays (values e)) t r
    pub answers : q ≡ answered r

  against : (e : Steps) (s t : S) (r : Result (Unit {0}) Reason) (q : Result (Unit {0}) Refusal) → Giving e s t r q → print_refusal e ≡ None
  against e s t r q g = rw (g.shut, g.tuning)

  pub print_did : (d : Draft) (s t : S) (r : Result (Unit {0}) Reason) (q : Result (Unit {0}) Refusal) → Giving (steps_of d) s t r q → Did d (printed (m s) (m t) q) d
  print_did d s t r q g =
      let ps = delays (values (steps_of d)) in
      let p : Printed None ps (m s) (m t) (answered r) = printed_by ps s t r (delays_good (values (steps_of d)) g.tuning) g.gave in
      record { memory = refl; steps = refl; answer = rw (against (steps_of d) s t r q g, g.answers) p; stays = refl }

  pub print_listed : (e : Steps) (s t : S) (r : Result (Unit {0}) Reason) (q : Result (Unit {0}) Refusal) → Giving e s t r q → Listed m h l (print_refusal e) s (delays (values e)) t q
  print_listed e s t r q g =
      let ps = delays (values e) in
      let p : Listed m h l None s ps t (answered r) = listed_by ps s t r (delays_good (values e) g.tuning) g.gave in
      rw (against e s t r q g, g.answers) p
