-- The steps on the way to a whole document: what they share with it.
use Rattle.std.proofs.Common.{◌≡◌, ℕ, suc, ◌<◌, ◌≤◌, true, false, List, [], ◌∷◌, length, replicate, Some, None, refl, ap, ◌∙◌, append-nil, arith}
use mathlib.Core.List.{tail}
use Rattle.std.proofs.lemmas.List.{nil_from_length}
use Rattle.std.proofs.lemmas.Bool.{ne_eqb, eqb-true}
use Rattle.steps.specs.Law.{Memory, Lawful, Closed, refusal, name_ok}
use Rattle.steps.specs.Outline.{Entry, Opened, values, opened, innermost, opening, in_object, same_holder, inner_names}
use Rattle.steps.specs.Steps.{Steps, Step, Name, Tag, Begun, begin, close, put, open', share}
use Rattle.steps.specs.declared.parts.Holder.{Holder}
use Rattle.steps.specs.declared.parts.Node.TheVariants.{At, Root}
use Rattle.steps.specs.declared.parts.Node.{Node}
use Rattle.std.specs.List.{AllByRecursion as Each}
use Rattle.redbin.proofs.Lists.{all_append, all_weaker}
use Rattle.redbin.proofs.Paths.{Held, Sound, AllHeld, outline_sound}
use Rattle.redbin.proofs.Whole.{Whole, nothing, a_put, a_share, a_holder, names, whole_opened, whole_count, whole_names, allowed}
use Rattle.refusal.specs.declared.Reason.TheVariants.{NothingThere}

-- the earlier values of a list of values
pub data Within (ys : List Entry) : List Entry → Type 0 where
  all_of : Within ys ys
  later : {x : Entry} {xs : List Entry} → Within ys xs → Within ys (x ∷ xs)

abbrev pub Absent : ℕ → List Opened → Type 0
Absent n os = Each (λ o. o.number ≡ n → ⊥) os

-- the document `all` gives a value that is closed nothing more to hold
abbrev pub Settled : List Entry → Steps → Type 0
Settled all e = (n : ℕ) → n < length (values e) → Absent n (opened e) → inner_names all (At n) ≡ inner_names (values e) (At n)

pub record PartOf (m : Memory) (all : List Entry) (e : Steps) : Type 0 where
  pub lawful : Lawful m e
  pub settled : Settled all e
  pub within : Within (values e) all

absent_tail : (n : ℕ) (os : List Opened) → Absent n os → Absent n (tail os)
absent_tail n [] a = tt
absent_tail n (o ∷ os) a = a.1

absent_other : (n : ℕ) (os : List Opened) → Absent n os → same_holder (innermost os) (At n) ≡ false
absent_other n [] a = refl
absent_other n (o ∷ os) a = ne_eqb o.number n a.0

absent_opening : (n m : ℕ) (b : Begun) (os : List Opened) → n < m → Absent n os → Absent n (opening b m os)
absent_opening n m (put v) os l a = a
absent_opening n m (open' h) os l a = ((λ z. omega arith), a)
absent_opening n m (share s t) os l a = a

within_later : (x : Entry) (ys xs : List Entry) → Within (x ∷ ys) xs → Within ys xs
within_later x ys xs all_of = later all_of
within_later x ys xs (later w) = later (within_later x ys _ w)

pub part_tail : (m : Memory) (all : List Entry) (s : Step) (e : Steps) → PartOf m all (s ∷ e) → PartOf m all e
unfolding inner_names
part_tail m all (begin l b) e p =
    record {
      lawful = p.lawful.0;
      settled = λ n h a.
          p.settled n (omega arith) (absent_opening n (length (values e)) b (opened e) h a)
          ∙ rw (absent_other n (opened e) a) (append-nil (inner_names (values e) (At n)));
      within = within_later _ (values e) all p.within;
    }
part_tail m all close e p =
    record {
      lawful = p.lawful.0;
      settled = λ n h a. p.settled n h (absent_tail n (opened e) a);
      within = p.within;
    }

pub part_start : (m : Memory) (all : List Entry) {s e : Steps} → Whole s e → PartOf m all e → PartOf m all s
part_start m all nothing p = p
part_start m all (a_put l v w) p = part_start m all w (part_tail m all _ _ p)
part_start m all (a_share l h t w) p = part_start m all w (part_tail m all _ _ p)
part_start m all (a_holder l h w v) p = part_start m all w (part_tail m all _ _ (part_start m all v (part_tail m all _ _ p)))

pub part_whole : (m : Memory) (e : Steps) → Lawful m e → PartOf m (values e) e
part_whole m e l = record { lawful = l; settled = λ n h a. refl; within = all_of }

absent_held : (xs : List Entry) (os : List Opened) → AllHeld xs os → Absent (length xs) os
absent_held xs os h = all_weaker _ _ (λ o p z. omega (arith, p.0)) os h

fresh_names : (xs : List Entry) (n : ℕ) → Sound xs → length xs ≤ suc n → inner_names xs (At n) ≡ []
unfolding inner_names
fresh_names [] n s l = refl
fresh_names (x ∷ xs) n s l = rw (other x.holder s.1, fresh_names xs n s.0 (omega arith))
  where
    other : (h : Node) → Held xs h → same_holder h (At n) ≡ false
    other Root t = refl
    other (At h) t = ne_eqb h n (λ z. omega (arith, t.0))

-- what the document says of the inner values of a holder is what the steps up to its close say
pub holder_names : (m : Memory) (all : List Entry) {e e' : Steps} (l : Tag) (h : Holder) (v : Whole (begin l (open' h) ∷ e) e') → PartOf m all (close ∷ e')
    → inner_names all (At (length (values e))) ≡ names v
holder_names m all {e} {e'} l h v p =
    let n = length (values e) in
    let c : n < length (values e') = whole_count v in
    let o : opened (close ∷ e') ≡ opened e = ap tail (whole_opened v) in
    let a : Absent n (opened (close ∷ e')) = rw o (absent_held (values e) (opened e) (outline_sound e).1) in
    let f : inner_names (values (begin l (open' h) ∷ e)) (At n) ≡ [] = fresh_names (values (begin l (open' h) ∷ e)) n (outline_sound (begin l (open' h) ∷ e)).0 (omega arith) in
    p.settled n c a ∙ whole_names v ∙ rw f

-- how steps nest: whole values at the Root, and behind each open value whole values in it
pub data Nested : Steps → Type 0 where
  ground : {e : Steps} → Whole [] e → Nested e
  under : {e e' : Steps} (l : Tag) (h : Holder) → Nested e → Whole (begin l (open' h) ∷ e) e' → Nested e'

joined : {a b c : Steps} → Whole a b → Whole b c → Whole a c
joined w nothing = w
joined w (a_put l v x) = a_put l v (joined w x)
joined w (a_share l h t x) = a_share l h t (joined w x)
joined w (a_holder l h x y) = a_holder l h (joined w x) y

more_whole : {e e' : Steps} → Nested e → Whole e e' → Nested e'
more_whole (ground w) x = ground (joined w x)
more_whole (under l h n w) x = under l h n (joined w x)

close_nested : (m : Memory) {e : Steps} → Nested e → refusal m e close ≡ None → Nested (close ∷ e)
close_nested m {e} (ground w) r =
    let o : opened e ≡ [] = whole_opened w in
    let q : Some NothingThere ≡ None = rw o at r in
    absurd cc
close_nested m (under l h n w) r = more_whole n (a_holder l h nothing w)

pub nested : (m : Memory) (e : Steps) → Lawful m e → Nested e
nested m [] t = ground nothing
nested m (begin l (put v) ∷ e) t = more_whole (nested m e t.0) (a_put l v nothing)
nested m (begin l (open' h) ∷ e) t = under l h (nested m e t.0) nothing
nested m (begin l (share s k) ∷ e) t = more_whole (nested m e t.0) (a_share l s k nothing)
nested m (close ∷ e) t = close_nested m (nested m e t.0) t.1

pub closed_whole : (m : Memory) {e : Steps} → Nested e → Closed e → Whole [] e
closed_whole m (ground w) c = w
closed_whole m (under {e = e} l h n w) c =
    let o = whole_opened w in
    absurd cc

pub start_lawful : (m : Memory) {s e : Steps} → Whole s e → Lawful m e → Lawful m s
start_lawful m nothing t = t
start_lawful m (a_put l v w) t = start_lawful m w t.0
start_lawful m (a_share l h k w) t = start_lawful m w t.0
start_lawful m (a_holder l h w v) t = start_lawful m w (start_lawful m v t.0).0

-- what the law says of a name where these values are begun holds of each of their names
pub names_all : (m : Memory) (P : Name → Type 0) {s e : Steps} (w : Whole s e) → Lawful m e → ((n : Name) → name_ok (opened s) n ≡ true → P n) → Each P (names w)
names_all m P nothing t f = tt
names_all m P (a_put {e = e} l v w) t f =
    all_append P (names w) (l.name ∷ []) (names_all m P w t.0 f) (f l.name (rw (whole_opened w) at (allowed m e l (put v) t.1).name), tt)
names_all m P (a_share {e = e} l h k w) t f =
    all_append P (names w) (l.name ∷ []) (names_all m P w t.0 f) (f l.name (rw (whole_opened w) at (allowed m e l (share h k) t.1).name), tt)
names_all m P (a_holder {e = e} l h w v) t f =
    let u = start_lawful m v t.0 in
    all_append P (names w) (l.name ∷ []) (names_all m P w u.0 f) (f l.name (rw (whole_opened w) at (allowed m e l (open' h) u.1).name), tt)

-- names outside objects are empty
empty_replicate : (ns : List Name) → Each (λ n. n ≡ []) ns → ns ≡ replicate (length ns) []
empty_replicate [] p = refl
empty_replicate (n ∷ ns) p = rw p.0 (ap {B = List Name} (λ r. [] ∷ r) (empty_replicate ns p.1))

empty_name : (os : List Opened) (n : Name) → in_object os ≡ false → name_ok os n ≡ true → n ≡ []
empty_name os n f h = nil_from_length n (eqb-true (length n) 0 (rw f at h))

pub names_outside : (m : Memory) {s e : Steps} (w : Whole s e) → Lawful m e → in_object (opened s) ≡ false → names w ≡ replicate (length (names w)) []
names_outside m {s} w t f = empty_replicate (names w) (names_all m _ w t (λ n h. empty_name (opened s) n f h))
