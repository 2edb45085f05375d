-- Steps that begin whole values, and what they add to the outline.
use Rattle.std.proofs.Common.{◌≡◌, ℕ, suc, ◌<◌, ◌≤◌, Bool, true, false, cond, ltb, List, [], ◌∷◌, ◌++◌, length, None, Option, sym, refl, ap, ◌∙◌, append_assoc, append-nil, arith}
use mathlib.Core.List.{tail}
use Rattle.std.proofs.lemmas.Bool.{ne_eqb, eq-eqb, ltb-true}
use Rattle.steps.specs.Law.{deepest, need, Memory, refusal, unless, name_ok, begun_ok, has_room}
use Rattle.steps.specs.Outline.{Entry, values, opened, innermost, same_holder, inner_names}
use Rattle.steps.specs.Steps.{Steps, Name, Tag, Content, Begun, begin, close, put, open', share}
use Rattle.steps.specs.declared.parts.Holder.{Holder}
use Rattle.steps.specs.declared.parts.Node.TheVariants.{At, Root}
use Rattle.steps.specs.declared.parts.Node.{Node}
use Rattle.steps.specs.declared.parts.Share.{Share}
use Rattle.redbin.proofs.Paths.{Held, held_innermost, outline_sound}
use Rattle.redbin.specs.Canonical.{record_of, payload}
use Rattle.refusal.specs.declared.Reason.TheVariants.{NotAllowed, BadName, NoMemory, TooDeep}
use Rattle.refusal.specs.declared.Reason.{Reason}

-- what a lawful step that begins a value was allowed by
pub record Allowed (m : Memory) (e : Steps) (l : Tag) (b : Begun) : Type 0 where
  pub name : name_ok (opened e) l.name ≡ true
  pub begun : begun_ok (values e) b ≡ true
  pub depth : length (opened e) < deepest
  pub room : has_room m e (need l.name b) ≡ true

unless_passed : (b : Bool) (why : Reason) (next : Option Reason) → unless b why next ≡ None → (b ≡ true) × (next ≡ None)
unless_passed true why next h = (refl, h)
unless_passed false why next h = absurd cc

pub allowed : (m : Memory) (e : Steps) (l : Tag) (b : Begun) → refusal m e (begin l b) ≡ None → Allowed m e l b
allowed m e l b h =
    let p = unless_passed (name_ok (opened e) l.name) BadName _ h in
    let q = unless_passed (begun_ok (values e) b) NotAllowed _ p.1 in
    let r = unless_passed (ltb (length (opened e)) deepest) TooDeep _ q.1 in
    let s = unless_passed (has_room m e (need l.name b)) NoMemory None r.1 in
    record { name = p.0; begun = q.0; depth = ltb-true (length (opened e)) deepest r.0; room = s.0 }

-- from the first steps to the second, whole values were begun, with all that they hold
pub data Whole : Steps → Steps → Type 0 where
  nothing : {s : Steps} → Whole s s
  a_put : {s e : Steps} (l : Tag) (v : Content) → Whole s e → Whole s (begin l (put v) ∷ e)
  a_share : {s e : Steps} (l : Tag) (h : Share) (t : Node) → Whole s e → Whole s (begin l (share h t) ∷ e)
  a_holder : {s e e' : Steps} (l : Tag) (h : Holder) → Whole s e → Whole (begin l (open' h) ∷ e) e' → Whole s (close ∷ e')

-- the names of these values
abbrev pub names : {s e : Steps} → Whole s e → List Name
names nothing = []
names (a_put l v w) = names w ++ l.name ∷ []
names (a_share l h t w) = names w ++ l.name ∷ []
names (a_holder l h w v) = names w ++ l.name ∷ []

-- their records
abbrev pub bytes : List Entry → {s e : Steps} → Whole s e → List ℕ
bytes all nothing = []
bytes all (a_put {e = e} l v w) = bytes all w ++ record_of all (values e) (length (payload all e)) l (put v)
bytes all (a_share {e = e} l h t w) = bytes all w ++ record_of all (values e) (length (payload all e)) l (share h t)
bytes all (a_holder {e = e} l h w v) = bytes all w ++ (record_of all (values e) (length (payload all e)) l (open' h) ++ bytes all v)

pub whole_payload : (all : List Entry) {s e : Steps} (w : Whole s e) → payload all e ≡ payload all s ++ bytes all w
whole_payload all {s} nothing = sym (append-nil (payload all s))
whole_payload all {s} (a_put l v w) = rw (whole_payload all w) (append_assoc (payload all s) (bytes all w) _)
whole_payload all {s} (a_share l h t w) = rw (whole_payload all w) (append_assoc (payload all s) (bytes all w) _)
whole_payload all {s} (a_holder {e = e} l h w v) =
    whole_payload all v ∙ append_assoc (payload all e) (record_of all (values e) (length (payload all e)) l (open' h)) (bytes all v)
    ∙ ap (λ p. p ++ (record_of all (values e) (length (payload all e)) l (open' h) ++ bytes all v)) (whole_payload all w)
    ∙ append_assoc (payload all s) (bytes all w) _

pub whole_opened : {s e : Steps} (w : Whole s e) → opened e ≡ opened s
whole_opened nothing = refl
whole_opened (a_put l v w) = whole_opened w
whole_opened (a_share l h t w) = whole_opened w
whole_opened (a_holder l h w v) = ap tail (whole_opened v) ∙ whole_opened w

pub whole_count : {s e : Steps} (w : Whole s e) → length (values s) ≤ length (values e)
whole_count nothing = omega arith
whole_count (a_put l v w) = omega (arith, whole_count w)
whole_count (a_share l h t w) = omega (arith, whole_count w)
whole_count (a_holder l h w v) = omega (arith, whole_count w, whole_count v)

-- a holder from before
abbrev Older : Node → ℕ → Type 0
Older Root n = Unit {0}
Older (At h) n = h < n

older_more : (h : Node) (m n : ℕ) → m ≤ n → Older h m → Older h n
older_more Root m n l p = tt
older_more (At h) m n l p = omega arith

older_other : (h : Node) (n : ℕ) → Older h n → same_holder (At n) h ≡ false
older_other Root n p = refl
older_other (At h) n p = ne_eqb n h (λ z. omega arith)

same_self : (h : Node) → same_holder h h ≡ true
same_self Root = refl
same_self (At n) = eq-eqb n n refl

add_nothing : (h k : Node) (ns : List Name) (n : Name) → same_holder h k ≡ false → ns ++ cond (same_holder h k) (n ∷ []) [] ≡ ns
add_nothing h k ns n p = rw p (append-nil ns)

-- whole values leave the inner values of an older holder, other than their own, as they were
whole_others : {s e : Steps} (w : Whole s e) (h : Node) → Older h (length (values s)) → same_holder (innermost (opened s)) h ≡ false
    → inner_names (values e) h ≡ inner_names (values s) h
unfolding inner_names
whole_others nothing h o d = refl
whole_others {s} (a_put {e = e} l v w) h o d =
    let p : same_holder (innermost (opened e)) h ≡ false = rw (whole_opened w) d in
    add_nothing (innermost (opened e)) h (inner_names (values e) h) l.name p ∙ whole_others w h o d
whole_others {s} (a_share {e = e} l b t w) h o d =
    let p : same_holder (innermost (opened e)) h ≡ false = rw (whole_opened w) d in
    add_nothing (innermost (opened e)) h (inner_names (values e) h) l.name p ∙ whole_others w h o d
whole_others {s} (a_holder {e = e} l b w v) h o d =
    let p : same_holder (innermost (opened e)) h ≡ false = rw (whole_opened w) d in
    let q : Older h (length (values e)) = older_more h (length (values s)) (length (values e)) (whole_count w) o in
    whole_others v h (older_more h (length (values e)) (suc (length (values e))) (omega arith) q) (older_other h (length (values e)) q)
    ∙ add_nothing (innermost (opened e)) h (inner_names (values e) h) l.name p ∙ whole_others w h o d

held_older : (xs : List Entry) (h : Node) → Held xs h → Older h (length xs)
held_older xs Root p = tt
held_older xs (At h) p = p.0

-- and add their names to those of their own
pub whole_names : {s e : Steps} (w : Whole s e) → inner_names (values e) (innermost (opened s)) ≡ inner_names (values s) (innermost (opened s)) ++ names w
unfolding inner_names
whole_names nothing = sym (append-nil _)
whole_names {s} (a_put {e = e} l v w) =
    let h = innermost (opened s) in
    let p : same_holder (innermost (opened e)) h ≡ true = rw (whole_opened w) (same_self h) in
    rw (p, whole_names w) (append_assoc (inner_names (values s) h) (names w) (l.name ∷ []))
whole_names {s} (a_share {e = e} l b t w) =
    let h = innermost (opened s) in
    let p : same_holder (innermost (opened e)) h ≡ true = rw (whole_opened w) (same_self h) in
    rw (p, whole_names w) (append_assoc (inner_names (values s) h) (names w) (l.name ∷ []))
whole_names {s} (a_holder {e = e} l b w v) =
    let h = innermost (opened s) in
    let p : same_holder (innermost (opened e)) h ≡ true = rw (whole_opened w) (same_self h) in
    let o = held_older (values s) h (held_innermost (values s) (opened s) (outline_sound s).1) in
    let q : Older h (length (values e)) = older_more h (length (values s)) (length (values e)) (whole_count w) o in
    let r = whole_others v h (older_more h (length (values e)) (suc (length (values e))) (omega arith) q) (older_other h (length (values e)) q) in
    r ∙ rw (p, whole_names w) (append_assoc (inner_names (values s) h) (names w) (l.name ∷ []))
