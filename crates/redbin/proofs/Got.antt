-- What is known when a reading came to its end without a refusal.
use Rattle.std.proofs.Common.{◌≡◌, ℕ, zero, suc, ◌*◌, ◌%◌, ◌<◌, Bool, true, false, cond, eqb, ltb, List, [], ◌∷◌, length, take, drop, Some, None, Option, Ok, Err, Result, refl, ap, ◌∙◌}
use Rattle.std.proofs.lemmas.Bool.{ltb-true}
use Rattle.steps.specs.Law.{Memory, has_room}
use Rattle.steps.specs.Outline.{Entry, values, suits, follow}
use Rattle.steps.specs.Steps.{Step}
use Rattle.steps.specs.declared.parts.Family.{Family}
use Rattle.steps.specs.declared.parts.Node.{Node}
use Rattle.redbin.specs.Layout.{padding_type}
use Rattle.redbin.proofs.Drafted.{InDraft, in_draft}
use Rattle.redbin.proofs.Fields.{Below}
use Rattle.redbin.specs.Bytes.{bit, number}
use Rattle.redbin.specs.declared.form.Form.{Form}
use Rattle.redbin.specs.Reading.{because, in_memory, suiting, Reader, Read, Reads, got, refused, after, here, left, push, refuse_when, enough, below, series, run, heading_by, heading_of, behind_padding, heading, room, target, on_boundary}
use Rattle.refusal.specs.declared.Part.TheVariants.{Reference}
use Rattle.refusal.specs.declared.Part.{Part}
use Rattle.refusal.specs.declared.Reason.TheVariants.{BadPath}
use Rattle.refusal.specs.declared.Reason.{Reason}
use Rattle.refusal.specs.declared.Refusal.{Refusal}

pub record Came {A B : Type 0} (x : Read A) (k : A → Reads B) (b : B) (r : Reader) : Type 0 where
  pub value : A
  pub at : Reader
  pub was : x ≡ got value at
  pub next : k value at ≡ got b r

pub came : {A B : Type 0} (x : Read A) (k : A → Reads B) (b : B) (r : Reader) → after x k ≡ got b r → Came x k b r
unfolding after
came (got a s) k b r h = record { value = a; at = s; was = refl; next = h }
came (refused x) k b r h = absurd cc

-- a test that refuses when it holds
passed : {A : Type 0} (t : Bool) (x : Refusal) (y : Read A) (a : A) (r : Reader) → cond t (refused x) y ≡ got a r → (t ≡ false) × (y ≡ got a r)
passed true x y a r h = absurd cc
passed false x y a r h = (refl, h)

pub passed' : {A : Type 0} (t : Bool) (x : Refusal) (y : Read A) (a : A) (r : Reader) → cond t y (refused x) ≡ got a r → (t ≡ true) × (y ≡ got a r)
passed' true x y a r h = (refl, h)
passed' false x y a r h = absurd cc

pub same_reader : {A : Type 0} (a b : A) (r s : Reader) → got a r ≡ got b s → s ≡ r
same_reader a b r s h = cc

pub same_steps : {A : Type 0} (a b : A) (r s : Reader) → got a r ≡ got b s → s.steps ≡ r.steps
same_steps a b r s h = cc

pub same_value : {A : Type 0} (a b : A) (r s : Reader) → got a r ≡ got b s → b ≡ a
same_value a b r s h = cc

pub here_got : (size : ℕ) (r : Reader) (n : ℕ) (s : Reader) → here size r ≡ got n s → s.steps ≡ r.steps
unfolding here
here_got size r n s h = same_steps _ n r s h

pub refuse_got : (b : Bool) (why : Reason) (part : Part) (place : ℕ) (r : Reader) (u : Unit {0}) (s : Reader) → refuse_when b why part place r ≡ got u s → (b ≡ false) × (s.steps ≡ r.steps)
unfolding refuse_when
refuse_got b why part place r u s h =
    let p = passed b _ (got tt r) u s h in
    (p.0, same_steps tt u r s p.1)

pub enough_got : (size : ℕ) (part : Part) (n : ℕ) (r : Reader) (u : Unit {0}) (s : Reader) → enough size part n r ≡ got u s → s.steps ≡ r.steps
unfolding enough
enough_got size part n r u s h =
    same_steps tt u r s (passed _ _ (got tt r) u s h).1

pub below_got : (size : ℕ) (part : Part) (unit limit : ℕ) (why : Reason) (r : Reader) (n : ℕ) (s : Reader) → below size part unit limit why r ≡ got n s → (n < limit) × (s.steps ≡ r.steps)
unfolding below
below_got size part unit limit why r n s h =
    let x = number (take unit r.rest) in
    let r' : Reader = record { rest = drop unit r.rest; steps = r.steps } in
    let p = passed _ _ _ n s h in
    let q = passed' (ltb x limit) _ (got x r') n s p.1 in
    let v : n ≡ x = same_value x n r' s q.1 in
    (rw v (ltb-true x limit q.0), same_steps x n r' s q.1)

pub series_got : (size : ℕ) (part : Part) (unit limit : ℕ) (why : Reason) (k : ℕ) (r : Reader) (ns : List ℕ) (s : Reader) → series size part unit limit why k r ≡ got ns s
    → (Below limit ns) × (length ns ≡ k) × (s.steps ≡ r.steps)
unfolding series
series_got size part unit limit why zero r ns s h =
    let v : ns ≡ [] = same_value [] ns r s h in
    rw v (tt, refl, same_steps [] ns r s h)
series_got size part unit limit why (suc k) r ns s h =
    let c = came _ _ ns s h in
    let p = below_got size part unit limit why r c.value c.at c.was in
    let d = came _ _ ns s c.next in
    let q = series_got size part unit limit why k c.at d.value d.at d.was in
    let v : ns ≡ c.value ∷ d.value = same_value _ ns d.at s d.next in
    let w : s ≡ d.at = same_reader _ ns d.at s d.next in
    rw v ((p.0, q.0), ap suc q.1, ap (λ (y : Reader). y.steps) w ∙ q.2 ∙ p.1)

pub run_got : (size : ℕ) (part : Part) (unit limit : ℕ) (why : Reason) (k : ℕ) (r : Reader) (ns : List ℕ) (s : Reader) → run size part unit limit why k r ≡ got ns s
    → (Below limit ns) × (length ns ≡ k) × (s.steps ≡ r.steps)
unfolding run
run_got size part unit limit why k r ns s h =
    let c = came _ _ ns s h in
    let e = enough_got size part (k * unit) r c.value c.at c.was in
    let q = series_got size part unit limit why k c.at ns s c.next in
    (q.0, q.1, q.2 ∙ e)

-- a reading that leaves the steps as they are
pub record Still {A : Type 0} (p : Reads A) : Type 0 where
  pub still : (r : Reader) (a : A) (s : Reader) → p r ≡ got a s → s.steps ≡ r.steps

pub still_then : {A B : Type 0} {p : Reads A} {k : A → Reads B} → Still p → ((a : A) → Still (k a)) → Still (λ r. after (p r) k)
still_then {k = k} h g = record {
  still = λ r b s e.
      let c = came _ k b s e in
      (g c.value).still c.at b s c.next ∙ h.still r c.value c.at c.was;
}

pub still_here : (size : ℕ) → Still (here size)
still_here size = record { still = here_got size }

pub still_left : Still left
still_left = record { still = λ r a s e. same_steps _ a r s e }

pub still_refuse : (b : Bool) (why : Reason) (part : Part) (place : ℕ) → Still (refuse_when b why part place)
still_refuse b why part place = record { still = λ r a s e. (refuse_got b why part place r a s e).1 }

pub still_below : (size : ℕ) (part : Part) (unit limit : ℕ) (why : Reason) → Still (below size part unit limit why)
still_below size part unit limit why = record { still = λ r a s e. (below_got size part unit limit why r a s e).1 }

pub still_run : (size : ℕ) (part : Part) (unit limit : ℕ) (why : Reason) (n : ℕ) → Still (run size part unit limit why n)
still_run size part unit limit why n = record { still = λ r a s e. (run_got size part unit limit why n r a s e).2 }

still_heading_by : (c : InDraft) (place : ℕ) (mark : Bool) (a : Result Form Reason) → Still (heading_by (in_draft c) place mark a)
still_heading_by c place mark (Ok x) = record { still = λ r h s e. same_steps _ h r s e }
still_heading_by c place mark (Err why) = record { still = λ r h s e. absurd cc }

still_heading_of : (c : InDraft) (place n : ℕ) → Still (heading_of (in_draft c) place n)
unfolding heading_of
still_heading_of c place n = still_heading_by c place _ _

still_padding : (c : InDraft) (place n : ℕ) → Still (behind_padding (in_draft c) place n)
unfolding behind_padding
still_padding c place n =
    still_then (record { still = λ r a s e. same_steps _ a r s e })
    (λ bytes. still_then (still_refuse _ _ _ _) (λ u. still_then (still_refuse _ _ _ _)
    (λ u. still_then (still_here _) (λ start. still_then (still_below _ _ _ _ _) (λ h. still_heading_of c start h)))))

pub still_heading : (c : InDraft) → Still (heading (in_draft c))
unfolding heading
still_heading c = still_then (still_here _) (λ place. still_then (still_below _ _ _ _ _) (λ h. go place h (eqb (h % bit 8) padding_type)))
  where
    go : (place h : ℕ) (b : Bool) → Still (cond b (behind_padding (in_draft c) place h) (heading_of (in_draft c) place h))
    go place h true = still_padding c place h
    go place h false = still_heading_of c place h

pub room_got : (c : InDraft) (place : ℕ) (n : Memory) (r : Reader) (u : Unit {0}) (s : Reader) → room (in_draft c) place n r ≡ got u s
    → (has_room c.memory r.steps n ≡ true) × (s.steps ≡ r.steps)
unfolding room
room_got c place n r u s h =
    let p = passed' (has_room c.memory r.steps n) _ (got tt r) u s h in
    (p.0, same_steps tt u r s p.1)

pub push_got : (m : Memory) (x : Step) (r : Reader) (u : Unit {0}) (s : Reader) → push (in_memory m) x r ≡ got u s → s.steps ≡ x ∷ r.steps
unfolding push
push_got m x r u s h = same_steps tt u _ s h

suiting_got : (xs : List Entry) (f : Family) (o : Option Node) (t : Node) → suiting xs f o ≡ Some t → suits xs t f ≡ true
suiting_got xs f None t h = absurd cc
suiting_got xs f (Some n) t h = go (suits xs n f) refl
  where
    go : (b : Bool) → suits xs n f ≡ b → suits xs t f ≡ true
    go true e =
        let q : Some n ≡ Some t = rw e at h in
        let v : n ≡ t = cc in
        rw v at e
    go false e =
        let q : None ≡ Some t = rw e at h in
        absurd cc

pub target_got : (c : InDraft) (place : ℕ) (f : Family) (p : List ℕ) (r : Reader) (t : Node) (s : Reader) → target (in_draft c) place f p r ≡ got t s
    → (suits (values r.steps) t f ≡ true) × (s.steps ≡ r.steps)
unfolding target
target_got c place f p r t s h = go (suiting (values r.steps) f (follow (values r.steps) p)) refl
  where
    go : (o : Option Node) → suiting (values r.steps) f (follow (values r.steps) p) ≡ o → (suits (values r.steps) t f ≡ true) × (s.steps ≡ r.steps)
    go None e =
        let q : refused (because BadPath Reference place) ≡ got t s = rw e at h in
        absurd cc
    go (Some n) e =
        let q : got n r ≡ got t s = rw e at h in
        let v : t ≡ n = same_value n t r s q in
        (rw v (suiting_got (values r.steps) f (follow (values r.steps) p) n e), same_steps n t r s q)

pub boundary_got : (c : InDraft) (r : Reader) (u : Unit {0}) (s : Reader) → on_boundary (in_draft c) r ≡ got u s → s.steps ≡ r.steps
unfolding on_boundary
boundary_got c r u s h = same_steps tt u r s (passed' _ _ (got tt r) u s h).1
