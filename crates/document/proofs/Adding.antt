-- A step added to a store.
use Rattle.std.proofs.Common.{take, ◌≡◌, ℕ, ◌+◌, ◌^◌, ◌<◌, ◌≤◌, min, Bool, true, false, ltb, leb, List, [], ◌∷◌, ◌++◌, length, None, Option, sym, refl, ap, ◌∙◌, subst, arith}
use Rattle.std.proofs.lemmas.Bool.{ltb-true, leb-true, and_parts}
use Rattle.refusal.specs.declared.Reason.{Reason}
use Rattle.refusal.specs.declared.Reason.TheVariants.{TooDeep, NoMemory, NotAllowed, BadName}
use Rattle.steps.specs.declared.parts.Node.{Node}
use Rattle.steps.specs.declared.parts.Node.TheVariants.{Root, At}
use Rattle.steps.specs.declared.parts.Sort.{Sort}
use Rattle.steps.specs.declared.parts.Content.TheVariants.{Nothing, Logic, Char, Integer, Float, Text}
use Rattle.steps.specs.declared.parts.Sort.TheVariants.{Put, Open, Share}
use Rattle.steps.specs.declared.parts.Cell.{Cell}
use Rattle.steps.specs.declared.pile.Pile.{Pile}
use Rattle.document.specs.declared.store.Store.{Store}
use Rattle.steps.specs.Steps.{Tag, none, logic, char, integer, float, text, Begun, put, open', share, Step, begin, Steps}
use Rattle.steps.specs.Outline.{values, opened}
use Rattle.steps.specs.Law.{Memory, so_much, usable, cells, points, names, used, deepest, unless, has_room, need, name_ok, begun_ok, refusal, codepoints_of}
use Rattle.steps.specs.Items.{items, free, lent, room, Sized}
use Rattle.steps.specs.Build.{Built, more, adjust_at, sort_of, inside, deeper, apply, count_in, span_of, begun_with, steps, blank, Under, Raisable}
use Rattle.document.specs.Standing.{in_use, standing, memory_lent, free_points, next_value}
use Rattle.document.specs.Stands.{Stands, lent_of}
use Rattle.steps.proofs.Told.{SortFine, CellFine}
use Rattle.steps.proofs.Good.{each_at}
use Rattle.steps.proofs.Piled.{uses, fits}
use Rattle.document.proofs.Agreed.{added}
use Rattle.document.proofs.Checked.{agrees}

abbrev pub built : List Cell → List ℕ → List ℕ → Node → ℕ → Built
built cs ps ns o d = record { cells = cs; points = ps; names = ns; innermost = o; depth = d }

pub same_built : (m n : Built) → m.cells ≡ n.cells → m.points ≡ n.points → m.names ≡ n.names → m.innermost ≡ n.innermost → m.depth ≡ n.depth → m ≡ n
same_built m n a b c d e =
    ap (λ x. built x m.points m.names m.innermost m.depth) a ∙ ap (λ x. built n.cells x m.names m.innermost m.depth) b
    ∙ ap (λ x. built n.cells n.points x m.innermost m.depth) c ∙ ap (λ x. built n.cells n.points n.names x m.depth) d
    ∙ ap (λ x. built n.cells n.points n.names n.innermost x) e

pub same_room : {T : Type 0} (p q : Pile T) → Sized p q → room q ≡ room p
same_room p q z = ap (λ x. min x q.bound) z.0 ∙ ap (min (lent p)) z.1

pub sized_twice : {T : Type 0} (p q r : Pile T) → Sized p q → Sized q r → Sized p r
sized_twice p q r a b = (b.0 ∙ a.0, b.1 ∙ a.1)

-- ---- what the law leaves for an accepted value

unless_none : (b : Bool) (why : Reason) (next : Option Reason) → unless b why next ≡ None → (b ≡ true) × (next ≡ None)
unless_none true why next h = (refl, h)
unless_none false why next h = absurd cc

pub passed : (M : Memory) (e : Steps) (l : Tag) (b : Begun) → refusal M e (begin l b) ≡ None → (ltb (length (opened e)) deepest ≡ true) × (has_room M e (need l.name b) ≡ true)
passed M e l b h =
    let n = unless_none (name_ok (opened e) l.name) BadName _ h in
    let v = unless_none (begun_ok (values e) b) NotAllowed _ n.1 in
    let d = unless_none (ltb (length (opened e)) deepest) TooDeep _ v.1 in
    (d.0, (unless_none (has_room M e (need l.name b)) NoMemory _ d.1).0)

-- one more value fits, with so many codepoints and name bytes
pub record Roomy (s : Store) (p n : ℕ) : Type 0 where
  pub deep : s.depth < deepest
  pub one : length (items s.cells) + 1 ≤ room s.cells
  pub point : length (items s.codepoints) + p ≤ room s.codepoints
  pub name : length (items s.names) + n ≤ room s.names

pub roomy : (s : Store) (l : Tag) (b : Begun) → refusal (memory_lent s) (standing s) (begin l b) ≡ None → Roomy s (length (codepoints_of b)) (length l.name)
roomy s l b h =
    let g = agrees s in
    let e = standing s in
    let m = memory_lent s in
    let p = passed m e l b h in
    let x = and_parts (leb (used e cells + 1) (usable m cells)) _ p.1 in
    let y = and_parts (leb (used e points + length (codepoints_of b)) (usable m points)) _ x.1 in
    let d = ltb-true _ _ p.0 in
    let a₁ = leb-true _ _ x.0 in
    let a₂ = leb-true _ _ y.0 in
    let a₃ = leb-true _ _ y.1 in
    let q₁ : room s.cells ≡ usable m cells = ap (min (m cells)) s.cells_bound in
    let q₂ : room s.codepoints ≡ usable m points = ap (min (m points)) s.points_bound in
    let q₃ : room s.names ≡ usable m names = ap (min (m names)) s.names_bound in
    record {
      deep = omega (arith, g.depth_is);
      one = omega (arith, g.cells_used);
      point = omega (arith, g.points_used);
      name = omega (arith, g.names_used);
    }

-- what fits has fewer than 2 ^ 32 elements
pub few : {T : Type 0} (p : Pile T) (n : ℕ) → length (items p) + n ≤ room p → p.used + n < 2 ^ 32
few p n h = let f = fits p n h in omega (arith, f.1, p.small)

count_room : (P K : ℕ) (s : Sort) → K + 1 < 2 ^ 32 → SortFine P K s → count_in s + 1 < 2 ^ 32
count_room P K (Put Nothing) l h = omega arith
count_room P K (Put (Logic b)) l h = omega arith
count_room P K (Put (Char n)) l h = omega arith
count_room P K (Put (Integer z)) l h = omega arith
count_room P K (Put (Float n)) l h = omega arith
count_room P K (Put (Text k x s)) l h = omega arith
count_room P K (Open x n) l h = omega (arith, l, h)
count_room P K (Share x t) l h = omega arith

raisable : (s : Store) (o : Node) → length (items s.cells) + 1 < 2 ^ 32 → Under (length (items s.cells)) o → Raisable (items s.cells) o
raisable s Root l u = tt
raisable s (At i) l u =
    count_room (length (items s.codepoints)) (length (items s.cells)) _ l
    (each_at (CellFine (length (items s.codepoints)) (length (items s.names)) (length (items s.cells))) (items s.cells) i blank u (agrees s).good.each).sorted

pub raises : (s : Store) (p n : ℕ) → Roomy s p n → Raisable (items s.cells) s.innermost
raises s p n r = let f = few s.cells 1 r.one in raisable s s.innermost (omega (arith, uses s.cells)) (agrees s).good.open_one

-- ---- the store after an accepted step

pub same_memory : (cs cs' : Pile Cell) (ps ps' ns ns' : Pile ℕ) → Sized cs cs' → Sized ps ps' → Sized ns ns' → lent_of cs' ps' ns' ≡ lent_of cs ps ns
same_memory cs cs' ps ps' ns ns' a b c =
    ap (λ x. so_much x (lent ps') (lent ns')) a.0 ∙ ap (λ x. so_much (lent cs) x (lent ns')) b.0 ∙ ap (λ x. so_much (lent cs) (lent ps) x) c.0

-- what stands after an accepted step, and in which memory
pub stands_after : (M N : Memory) (step : Step) (m n : Built) → Stands M m → refusal M (steps m) step ≡ None → n ≡ apply step m → N ≡ M → Stands N n
stands_after M N step m n k h is e = subst (λ x. Stands x n) (sym e) (added M step m n k h is).stands

-- the same stands in the same memory
pub stands_same : (M N : Memory) (m n : Built) → Stands M m → n ≡ m → N ≡ M → Stands N n
stands_same M N m n k is e = subst (Stands N) (sym is) (subst (λ x. Stands x m) (sym e) k)

-- what is in use, but for the codepoints
abbrev pub with_points : Store → List ℕ → Built
with_points s ps = record { cells = items s.cells; points = ps; names = items s.names; innermost = s.innermost; depth = s.depth }

-- ---- the cell of a value

-- the sort of a value has a part of as many codepoints as the value has
pub spanned : (n : ℕ) (b : Begun) → (span_of (sort_of n b)).len ≡ length (codepoints_of b)
spanned n (put none) = refl
spanned n (put (logic x)) = refl
spanned n (put (char x)) = refl
spanned n (put (integer x)) = refl
spanned n (put (float x)) = refl
spanned n (put (text k h ps)) = refl
spanned n (open' h) = refl
spanned n (share s t) = refl

-- the codepoints that are taken from free memory are those of the value
pub taken : (v : Sort) (f : List ℕ) → take (span_of v).len f ≡ codepoints_of (begun_with v (take (span_of v).len f))
taken (Put Nothing) f = refl
taken (Put (Logic x)) f = refl
taken (Put (Char x)) f = refl
taken (Put (Integer x)) f = refl
taken (Put (Float x)) f = refl
taken (Put (Text k h x)) f = refl
taken (Open h x) f = refl
taken (Share x t) f = refl

-- a value whose codepoints are the first of free memory
pub laid : (n : ℕ) (b : Begun) (f : List ℕ) → take (length (codepoints_of b)) f ≡ codepoints_of b → begun_with (sort_of n b) (take (span_of (sort_of n b)).len f) ≡ b
laid n (put none) f e = refl
laid n (put (logic x)) f e = refl
laid n (put (char x)) f e = refl
laid n (put (integer x)) f e = refl
laid n (put (float x)) f e = refl
laid n (put (text k h ps)) f e = ap (λ xs. put (text k h xs)) e
laid n (open' h) f e = refl
laid n (share s t) f e = refl

-- a cell with this name
abbrev pub named : Store → Tag → Sort → ℕ → Cell
named s l v n = record { new_line = l.new_line; name = record { start = n; len = length l.name }; holder = s.innermost; closes = 0; sort = v }

-- the sort, by what is in use
pub placed : (s : Store) (v : Sort) → v ≡ sort_of (used (standing s) points) (next_value s v) → v ≡ sort_of (length (items s.codepoints)) (next_value s v)
placed s v e = e ∙ ap (λ n. sort_of n (next_value s v)) (sym (agrees s).points_used)

-- what is in use once a cell and its parts were added is what the step of the value makes of it
pub celled : (s : Store) (l : Tag) (v : Sort) (n start len : ℕ) (raised cs : List Cell) (ps ns : List ℕ) (o : Node) (d : ℕ) → v ≡ sort_of (used (standing s) points) (next_value s v)
    → n ≡ length (items s.cells) → start ≡ length (items s.names) → len ≡ (span_of v).len
    → raised ≡ adjust_at s.innermost more (items s.cells) → cs ≡ raised ++ (named s l v start ∷ []) → ps ≡ items s.codepoints ++ take len (free s.codepoints)
    → ns ≡ items s.names ++ l.name → o ≡ inside v n s.innermost → d ≡ deeper v s.depth → built cs ps ns o d ≡ apply (begin l (next_value s v)) (in_use s)
celled s l v n start len raised cs ps ns o d e counted stood spans raises pushed extended appended inner deep =
    let b = next_value s v in
    let before = adjust_at s.innermost more (items s.cells) in
    let p = placed s v e in
    same_built (built cs ps ns o d) (apply (begin l b) (in_use s))
    (pushed ∙ ap (λ xs. xs ++ (named s l v start ∷ [])) raises ∙ ap (λ i. before ++ (named s l v i ∷ [])) stood
    ∙ ap (λ w. before ++ (named s l w (length (items s.names)) ∷ [])) p)
    (extended ∙ ap (λ i. items s.codepoints ++ take i (free s.codepoints)) spans ∙ ap (λ xs. items s.codepoints ++ xs) (taken v (free s.codepoints))) appended
    (inner ∙ ap (λ i. inside v i s.innermost) counted ∙ ap (λ w. inside w (length (items s.cells)) s.innermost) p) (deep ∙ ap (λ w. deeper w s.depth) p)

-- there is room for what is taken
pub spanned_room : (s : Store) (l : Tag) (v : Sort) (len : ℕ) → v ≡ sort_of (used (standing s) points) (next_value s v) → len ≡ (span_of v).len → refusal (memory_lent s) (standing s) (begin l (next_value s v)) ≡ None
    → length (items s.codepoints) + len ≤ room s.codepoints
spanned_room s l v len e spans h =
    let b = next_value s v in
    let r = roomy s l b h in
    subst (λ i. length (items s.codepoints) + i ≤ room s.codepoints) (sym (spans ∙ ap (λ w. (span_of w).len) e ∙ spanned (used (standing s) points) b)) r.point

-- the next value of a store with the codepoints of a value in free memory is that value
pub next_laid : (u : Store) (n : ℕ) (v : Sort) (b : Begun) (ps : List ℕ) → v ≡ sort_of n b → ps ≡ codepoints_of b → take (length ps) (free_points u) ≡ ps → next_value u v ≡ b
next_laid u n v b ps e is h =
    ap (next_value u) e ∙ laid n b (free_points u) (subst (λ xs. take (length xs) (free_points u) ≡ xs) is h)
