-- What adding a value comes to.
use Rattle.std.proofs.Common.{◌≡◌, ℕ, ◌<◌, Bool, true, false, ltb, length, Some, None, Option, Ok, Err, Result, refl, arith}
use Rattle.std.specs.Result.{MatchResult}
use Rattle.std.proofs.lemmas.Bool.Decides.{nat_tests}
use Rattle.refusal.specs.declared.Reason.{Reason}
use Rattle.refusal.specs.declared.Reason.TheVariants.{NoMemory, BadName, NotAllowed, TooDeep, NothingThere}
use Rattle.refusal.specs.declared.Refusal.{Refusal}
use Rattle.refusal.specs.declared.Part.TheVariants.{Record}
use Rattle.steps.specs.Steps.{Steps, Tag, Begun, begin, close}
use Rattle.steps.specs.Outline.{values, opened}
use Rattle.steps.specs.Law.{Memory, need, unless, has_room, refusal, name_ok, begun_ok, deepest}
use Rattle.document.specs.declared.store.Store.{Store}
use Rattle.document.specs.Standing.{standing, memory_lent, Took}
use Rattle.redbin.specs.Reading.{because, after, room, push, ◌>>◌}
use Rattle.load.specs.Filled.{Ready, Added}

-- a step that is refused for no other reason is refused for memory
only_room : (a b c d : Bool) → a ≡ true → b ≡ true → c ≡ true → (o : Option Reason) → unless a BadName (unless b NotAllowed (unless c TooDeep (unless d NoMemory None))) ≡ o → unless d NoMemory None ≡ o
only_room true true true d ha hb hc o h = h
only_room false b c d ha hb hc o h = absurd cc
only_room true false c d ha hb hc o h = absurd cc
only_room true true false d ha hb hc o h = absurd cc

roomy : (d : Bool) → unless d NoMemory None ≡ None → d ≡ true
roomy true h = refl
roomy false h = absurd cc

roomless : (d : Bool) (why : Reason) → unless d NoMemory None ≡ Some why → d ≡ false
roomless false why h = refl
roomless true why h = absurd cc

module _ (m : Memory) (e : Steps) (l : Tag) (b : Begun) (named : name_ok (opened e) l.name ≡ true) (allowed : begun_ok (values e) b ≡ true) (deep : length (opened e) < deepest) where
  step_room : (o : Option Reason) → refusal m e (begin l b) ≡ o → unless (has_room m e (need l.name b)) NoMemory None ≡ o
  step_room o h =
      let t : ltb (length (opened e)) 32 ≡ true = grind (arith, nat_tests) in
      only_room _ _ _ _ named allowed t o h

  pub has_it : refusal m e (begin l b) ≡ None → has_room m e (need l.name b) ≡ true
  has_it h = roomy _ (step_room None h)

  pub accepts_it : has_room m e (need l.name b) ≡ true → refusal m e (begin l b) ≡ None
  accepts_it h =
      let t : ltb (length (opened e)) 32 ≡ true = grind (arith, nat_tests) in
      rw (named, allowed, t, h)

  pub lacks_it : (why : Reason) → refusal m e (begin l b) ≡ Some why → has_room m e (need l.name b) ≡ false
  lacks_it why h = roomless _ why (step_room (Some why) h)

-- a value was begun, or refused for memory
pub begun_added : (b t : Store) (l : Tag) (x : Begun) (place n : ℕ) (r : Result ℕ Reason) (answer : Result (Unit {0}) Refusal) → Ready b l.name → begun_ok (values (standing b)) x ≡ true → Took b (begin l x) n r t
    → MatchResult r (λ _. answer ≡ Ok tt) (λ _. answer ≡ Err (because NoMemory Record place)) → Added b (λ c. room c place (need l.name x) >> push c.uses (begin l x)) answer t
unfolding room push after
begun_added b t l x place n (Ok k) answer ready allowed took is =
    let has = has_it (memory_lent b) (standing b) l x ready.named allowed ready.deep took.law.0 in
    rw is (record { memory = took.memory; came = λ c bytes u. rw (u, has, took.law.2) })
begun_added b t l x place n (Err why) answer ready allowed took is =
    let lacks = lacks_it (memory_lent b) (standing b) l x ready.named allowed ready.deep why took.law.0 in
    rw is (record { memory = took.memory; came = λ c bytes u. rw (u, lacks) })

-- something is open to close
never_refused : (m : Memory) (e : Steps) (why : Reason) → 0 < length (opened e) → refusal m e close ≡ Some why → ⊥
never_refused m e why lt h =
    let t : ltb 0 (length (opened e)) ≡ true = grind (arith, nat_tests) in
    go (ltb 0 (length (opened e))) t h
  where
    go : (b : Bool) → b ≡ true → unless b NothingThere None ≡ Some why → ⊥
    go true t k = cc
    go false t k = cc

-- the innermost value was closed
pub close_added : (b t : Store) (r : Result (Unit {0}) Reason) → 0 < length (opened (standing b)) → Took b close tt r t → Added b (λ c. push c.uses close) (Ok tt) t
unfolding push
close_added b t (Ok u) lt took = record { memory = took.memory; came = λ c bytes q. rw (q, took.law.2) }
close_added b t (Err why) lt took = absurd (never_refused (memory_lent b) (standing b) why lt took.law.0)
