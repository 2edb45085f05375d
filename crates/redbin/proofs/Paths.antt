-- The canonical path of a value leads to it, also after later steps.
use Rattle.std.proofs.Common.{◌≡◌, ℕ, zero, suc, ◌<◌, ◌≤◌, Bool, true, false, cond, eqb, List, [], ◌∷◌, ◌++◌, length, Some, None, Option, refl, ap, ◌∙◌, arith, length-append}
use mathlib.Core.List.{tail}
use Rattle.std.proofs.lemmas.Bool.{ne_eqb, eq-eqb, eqb-true, eqb-false}
use Rattle.steps.specs.Outline.{Entry, Opened, values, opened, innermost, same_holder, inner, begun_at, begun_suits, suits, target_or, through, at_place, nth, onward, walk, follow, way, path_of, path_to}
use Rattle.steps.specs.Steps.{Steps, Step, Tag, Begun, begin, close, put, open', share}
use Rattle.steps.specs.declared.parts.Family.{Family}
use Rattle.steps.specs.declared.parts.Node.TheVariants.{At, Root}
use Rattle.steps.specs.declared.parts.Node.{Node}
use Rattle.std.specs.List.{AllByRecursion as Each}
use Rattle.redbin.proofs.Lists.{all_append, all_weaker}
use Rattle.redbin.proofs.Fields.{Below}
use Rattle.redbin.proofs.Puts.{below_more}
use Rattle.redbin.specs.Promises.{PathsLead}

begun_later : (x : Entry) (xs : List Entry) (n : ℕ) → n < length xs → begun_at (x ∷ xs) n ≡ begun_at xs n
unfolding begun_at
begun_later x xs n h =
    let f : eqb n (length xs) ≡ false = ne_eqb n (length xs) (λ z. omega arith) in
    rw f

begun_here : (x : Entry) (xs : List Entry) → begun_at (x ∷ xs) (length xs) ≡ Some x.begun
unfolding begun_at
begun_here x xs =
    let f : eqb (length xs) (length xs) ≡ true = eq-eqb _ _ refl in
    rw f

through_later : (x : Entry) (xs : List Entry) (n : ℕ) → n < length xs → through (x ∷ xs) n ≡ through xs n
through_later x xs n h = ap (target_or n) (begun_later x xs n h)

inner_below : (xs : List Entry) (h : Node) → Below (length xs) (inner xs h)
unfolding inner
inner_below [] h = tt
inner_below (x ∷ xs) h =
    all_append _ (inner xs h) _ (below_more _ (suc (length xs)) (inner xs h) (omega arith) (inner_below xs h)) (last (same_holder x.holder h))
  where
    last : (b : Bool) → Below (suc (length xs)) (cond b (length xs ∷ []) [])
    last true = (omega arith, tt)
    last false = tt

inner_length : (xs : List Entry) (h : Node) → length (inner xs h) ≤ length xs
unfolding inner
inner_length [] h = omega arith
inner_length (x ∷ xs) h =
    let ih = inner_length xs h in
    let b = last (same_holder x.holder h) in
    omega (arith, length-append (inner xs h) (cond (same_holder x.holder h) (length xs ∷ []) []))
  where
    last : (b : Bool) → length (cond b (length xs ∷ []) []) ≤ 1
    last true = omega arith
    last false = omega arith

nth_append : (ns ms : List ℕ) (i n : ℕ) → nth ns i ≡ Some n → nth (ns ++ ms) i ≡ Some n
unfolding nth
nth_append [] ms i n h = absurd cc
nth_append (m ∷ ns) ms zero n h = h
nth_append (m ∷ ns) ms (suc i) n h = nth_append ns ms i n h

nth_last : (ns : List ℕ) (n : ℕ) → nth (ns ++ n ∷ []) (length ns) ≡ Some n
unfolding nth
nth_last [] n = refl
nth_last (m ∷ ns) n = nth_last ns n

nth_below : (limit : ℕ) (ns : List ℕ) (i n : ℕ) → Below limit ns → nth ns i ≡ Some n → n < limit
unfolding nth
nth_below limit [] i n b h = absurd cc
nth_below limit (m ∷ ns) zero n b h = let e : m ≡ n = cc in omega (arith, b.0)
nth_below limit (m ∷ ns) (suc i) n b h = nth_below limit ns i n b.1 h

place_later : (x : Entry) (xs : List Entry) (h : Node) (o : ℕ) (m : Node) → at_place xs (nth (inner xs h) o) ≡ Some m → at_place (x ∷ xs) (nth (inner (x ∷ xs) h) o) ≡ Some m
unfolding inner
place_later x xs h o m p = go (nth (inner xs h) o) refl
  where
    go : (found : Option ℕ) → nth (inner xs h) o ≡ found → at_place (x ∷ xs) (nth (inner xs h ++ cond (same_holder x.holder h) (length xs ∷ []) []) o) ≡ Some m
    go None q =
        let r : at_place xs None ≡ Some m = rw q at p in
        absurd cc
    go (Some n) q =
        let r : at_place xs (Some n) ≡ Some m = rw q at p in
        let l = nth_below (length xs) (inner xs h) o n (inner_below xs h) q in
        rw (nth_append (inner xs h) (cond (same_holder x.holder h) (length xs ∷ []) []) o n q, through_later x xs n l) r

onward_later : (x : Entry) (xs : List Entry) (s : Option Node) (o : ℕ) (m : Node) → onward xs s o ≡ Some m → onward (x ∷ xs) s o ≡ Some m
onward_later x xs None o m p = p
onward_later x xs (Some h) o m p = place_later x xs h o m p

walk_lost : (xs : List Entry) (os : List ℕ) → walk xs None os ≡ None
unfolding walk
walk_lost xs [] = refl
walk_lost xs (o ∷ os) = walk_lost xs os

-- a path that led somewhere leads there still when a value was added
pub walk_later : (x : Entry) (xs : List Entry) (s : Option Node) (os : List ℕ) (m : Node) → walk xs s os ≡ Some m → walk (x ∷ xs) s os ≡ Some m
unfolding walk
walk_later x xs s [] m p = p
walk_later x xs s (o ∷ os) m p = go (λ t r. walk_later x xs t os m r) (onward xs s o) refl
  where
    go : ((t : Option Node) → walk xs t os ≡ Some m → walk (x ∷ xs) t os ≡ Some m) → (t : Option Node) → onward xs s o ≡ t → walk (x ∷ xs) (onward (x ∷ xs) s o) os ≡ Some m
    go ih None q =
        let r : walk xs None os ≡ Some m = rw q at p in
        let w = walk_lost xs os in
        absurd cc
    go ih (Some n) q =
        let r : walk xs (Some n) os ≡ Some m = rw q at p in
        rw (onward_later x xs s o n q) (ih (Some n) r)

pub walk_append : (xs : List Entry) (s : Option Node) (p q : List ℕ) → walk xs s (p ++ q) ≡ walk xs (walk xs s p) q
unfolding walk
walk_append xs s [] q = refl
walk_append xs s (o ∷ p) q = walk_append xs (onward xs s o) p q

-- what holds a value was begun before it, and is no share
abbrev pub Held : List Entry → Node → Type 0
Held xs Root = Unit {0}
Held xs (At h) = (h < length xs) × (through xs h ≡ At h)

abbrev pub Sound : List Entry → Type 0
Sound [] = Unit {0}
Sound (x ∷ xs) = Sound xs × Held xs x.holder

abbrev pub AllHeld : List Entry → List Opened → Type 0
AllHeld xs os = Each (λ o. Held xs (At o.number)) os

held_later : (x : Entry) (xs : List Entry) (os : List Opened) → AllHeld xs os → AllHeld (x ∷ xs) os
held_later x xs os h = all_weaker _ _ (λ o p. (omega (arith, p.0), through_later x xs o.number p.0 ∙ p.1)) os h

pub held_innermost : (xs : List Entry) (os : List Opened) → AllHeld xs os → Held xs (innermost os)
held_innermost xs [] h = tt
held_innermost xs (o ∷ os) h = h.0

held_tail : (xs : List Entry) (os : List Opened) → AllHeld xs os → AllHeld xs (tail os)
held_tail xs [] h = tt
held_tail xs (o ∷ os) h = h.1

pub outline_sound : (e : Steps) → Sound (values e) × AllHeld (values e) (opened e)
outline_sound [] = (tt, tt)
outline_sound (begin l (put v) ∷ e) =
    let ih = outline_sound e in
    ((ih.0, held_innermost (values e) (opened e) ih.1), held_later _ (values e) (opened e) ih.1)
outline_sound (begin l (open' h) ∷ e) =
    let ih = outline_sound e in
    let x : Entry = record { label = l; begun = open' h; holder = innermost (opened e) } in
    ((ih.0, held_innermost (values e) (opened e) ih.1), ((omega arith, ap (target_or (length (values e))) (begun_here x (values e))), held_later x (values e) (opened e) ih.1))
outline_sound (begin l (share s t) ∷ e) =
    let ih = outline_sound e in
    ((ih.0, held_innermost (values e) (opened e) ih.1), held_later _ (values e) (opened e) ih.1)
outline_sound (close ∷ e) = ((outline_sound e).0, held_tail (values e) (opened e) (outline_sound e).1)

abbrev entry : Tag → Begun → Node → Entry
entry l b h = record { label = l; begun = b; holder = h }

path_leads_here : (l : Tag) (b : Begun) (xs : List Entry) (h : Node) → Held xs h → ((k : ℕ) → k < length xs → walk xs (Some Root) (path_of xs k) ≡ Some (through xs k))
    → walk (entry l b h ∷ xs) (Some Root) (way (path_of xs) h ++ length (inner xs h) ∷ []) ≡ Some (through (entry l b h ∷ xs) (length xs))
unfolding walk inner
path_leads_here l b xs Root t ih =
    ap (at_place (entry l b Root ∷ xs)) (nth_last (inner xs Root) (length xs))
path_leads_here l b xs (At h) t ih =
    let x = entry l b (At h) in
    let w : walk xs (Some Root) (path_of xs h) ≡ Some (At h) = ih h t.0 ∙ ap Some t.1 in
    let v = walk_later x xs (Some Root) (path_of xs h) (At h) w in
    let q : eqb h h ≡ true = eq-eqb h h refl in
    let f : nth (inner (x ∷ xs) (At h)) (length (inner xs (At h))) ≡ Some (length xs) = rw q (nth_last (inner xs (At h)) (length xs)) in
    walk_append (x ∷ xs) (Some Root) (path_of xs h) (length (inner xs (At h)) ∷ [])
    ∙ ap (λ s. onward (x ∷ xs) s (length (inner xs (At h)))) v
    ∙ ap (at_place (x ∷ xs)) f

-- the path of a value leads to it, or if it is shared to its target
pub path_leads : (xs : List Entry) → Sound xs → (n : ℕ) → n < length xs → walk xs (Some Root) (path_of xs n) ≡ Some (through xs n)
unfolding path_of walk
path_leads [] s n l = absurd (omega arith)
path_leads (x ∷ xs) s n l = go (λ k m. path_leads xs s.0 k m) (eqb n (length xs)) refl
  where
    go : ((k : ℕ) → k < length xs → walk xs (Some Root) (path_of xs k) ≡ Some (through xs k)) → (b : Bool) → eqb n (length xs) ≡ b
        → walk (x ∷ xs) (Some Root) (cond b (way (path_of xs) x.holder ++ length (inner xs x.holder) ∷ []) (path_of xs n)) ≡ Some (through (x ∷ xs) n)
    go ih true e =
        let q : n ≡ length xs = eqb-true n (length xs) e in
        rw q (path_leads_here x.label x.begun xs x.holder s.1 ih)
    go ih false e =
        let q : ¬ (n ≡ length xs) = eqb-false n (length xs) e in
        let m : n < length xs = omega arith in
        rw (through_later x xs n m) (walk_later x xs (Some Root) (path_of xs n) (through xs n) (ih n m))

begun_below : (xs : List Entry) (n : ℕ) (b : Begun) → begun_at xs n ≡ Some b → n < length xs
unfolding begun_at
begun_below [] n b h = absurd cc
begun_below (x ∷ xs) n b h = go (begun_below xs n b) (eqb n (length xs)) refl
  where
    go : (begun_at xs n ≡ Some b → n < length xs) → (t : Bool) → eqb n (length xs) ≡ t → n < suc (length xs)
    go ih true e = omega (arith, eqb-true n (length xs) e)
    go ih false e =
        let r : begun_at xs n ≡ Some b = rw e at h in
        let l = ih r in
        omega arith

-- a value that suits as a target is there and is no share
pub suits_own : (xs : List Entry) (n : ℕ) (f : Family) → suits xs (At n) f ≡ true → (n < length xs) × (through xs n ≡ At n)
suits_own xs n f h = go (begun_at xs n) refl
  where
    go : (o : Option Begun) → begun_at xs n ≡ o → (n < length xs) × (through xs n ≡ At n)
    go None e =
        let r : begun_suits None f ≡ true = rw e at h in
        absurd cc
    go (Some (put v)) e = (begun_below xs n (put v) e, ap (target_or n) e)
    go (Some (open' v)) e = (begun_below xs n (open' v) e, ap (target_or n) e)
    go (Some (share s t)) e =
        let r : begun_suits (Some (share s t)) f ≡ true = rw e at h in
        absurd cc

-- following the canonical path of a lawful target gives the target
pub follow_path : (e : Steps) (t : Node) (f : Family) → suits (values e) t f ≡ true → follow (values e) (path_to (values e) t) ≡ Some t
unfolding walk
follow_path e Root f h = refl
follow_path e (At t) f h =
    let o = suits_own (values e) t f h in
    path_leads (values e) (outline_sound e).0 t o.0 ∙ ap Some o.1

pub path_below : (xs : List Entry) (n : ℕ) → Below (length xs) (path_of xs n) × (length (path_of xs n) ≤ length xs)
unfolding path_of
path_below [] n = (tt, omega arith)
path_below (x ∷ xs) n = go (path_below xs) (eqb n (length xs))
  where
    Good : List ℕ → Type 0
    Good p = Below (suc (length xs)) p × (length p ≤ suc (length xs))

    more : (p : List ℕ) → Below (length xs) p × (length p ≤ length xs) → Good p
    more p h = (below_more (length xs) (suc (length xs)) p (omega arith) h.0, omega (arith, h.1))

    holder : ((k : ℕ) → Below (length xs) (path_of xs k) × (length (path_of xs k) ≤ length xs)) → (h : Node) → Good (way (path_of xs) h ++ length (inner xs h) ∷ [])
    holder ih Root = ((omega (arith, inner_length xs Root), tt), omega arith)
    holder ih (At h) = (
      all_append _ (path_of xs h) _ (more (path_of xs h) (ih h)).0 (omega (arith, inner_length xs (At h)), tt),
      omega (arith, length-append (path_of xs h) (length (inner xs (At h)) ∷ []), (ih h).1),
    )

    go : ((k : ℕ) → Below (length xs) (path_of xs k) × (length (path_of xs k) ≤ length xs)) → (b : Bool)
        → Good (cond b (way (path_of xs) x.holder ++ length (inner xs x.holder) ∷ []) (path_of xs n))
    go ih true = holder ih x.holder
    go ih false = more (path_of xs n) (ih n)

pub path_to_below : (xs : List Entry) (t : Node) → Below (length xs) (path_to xs t) × (length (path_to xs t) ≤ length xs)
path_to_below xs Root = (tt, omega arith)
path_to_below xs (At n) = path_below xs n

-- later values change neither where a path leads nor the canonical path of a value
pub follow_later : (x : Entry) (xs : List Entry) (p : List ℕ) (n : Node) → follow xs p ≡ Some n → follow (x ∷ xs) p ≡ Some n
follow_later x xs p n h = walk_later x xs (Some Root) p n h

pub path_later : (x : Entry) (xs : List Entry) (n : ℕ) → n < length xs → path_of (x ∷ xs) n ≡ path_of xs n
unfolding path_of
path_later x xs n h =
    let f : eqb n (length xs) ≡ false = ne_eqb n (length xs) (λ z. omega arith) in
    rw f

values_later : (s : Step) (e : Steps) (p : List ℕ) (n : Node) → follow (values e) p ≡ Some n → follow (values (s ∷ e)) p ≡ Some n
values_later (begin l b) e p n h = follow_later _ (values e) p n h
values_later close e p n h = h

count_later : (later e : Steps) (n : ℕ) → n < length (values e) → n < length (values (later ++ e))
count_later [] e n h = h
count_later (begin l b ∷ later) e n h = omega (arith, count_later later e n h)
count_later (close ∷ later) e n h = count_later later e n h

pub paths_lead : PathsLead
paths_lead [] e n h = (path_leads (values e) (outline_sound e).0 n h, refl)
paths_lead (begin l b ∷ later) e n h =
    let ih = paths_lead later e n h in
    (values_later (begin l b) (later ++ e) _ _ ih.0, path_later _ (values (later ++ e)) n (count_later later e n h) ∙ ih.1)
paths_lead (close ∷ later) e n h = paths_lead later e n h
