-- A step taken back.
use Rattle.std.proofs.Common.{◌≡◌, ℕ, zero, suc, ◌+◌, ◌-◌, ◌<◌, ◌≤◌, true, List, [], ◌∷◌, ◌++◌, length, take, sym, refl, ap, ◌∙◌, subst, arith}
use mathlib.Core.List.{tail}
use Rattle.std.proofs.lemmas.List.{length-append, take_at, take_all, append-nil}
use Rattle.std.proofs.lemmas.Bool.{ltb-true}
use Rattle.steps.specs.declared.parts.Node.{Node}
use Rattle.steps.specs.declared.parts.Node.TheVariants.{Root, At}
use Rattle.steps.specs.declared.parts.Sort.{Sort}
use Rattle.steps.specs.declared.parts.Content.TheVariants.{Nothing, Logic, Char, Integer, Float, Text}
use Rattle.steps.specs.declared.parts.Sort.TheVariants.{Put, Open, Share}
use Rattle.steps.specs.declared.parts.Cell.{Cell}
use Rattle.document.specs.declared.store.Store.{Store}
use Rattle.steps.specs.Adjust.{adjust}
use Rattle.steps.specs.Steps.{Tag, none, logic, char, integer, float, text, Begun, put, open', share, Step, begin, close, Steps}
use Rattle.steps.specs.Outline.{Opened, innermost, opened}
use Rattle.steps.specs.Law.{Memory, codepoints_of, deepest, Lawful}
use Rattle.steps.specs.Build.{Built, more, less, shut, unshut, more_in, less_in, adjust_at, sort_of, new_cell, inside, deeper, shallower, apply, build, steps, tell, last, holders, ups, cell_at, blank, empty, cut_at, Under}
use Rattle.document.specs.Standing.{standing, memory_lent}
use Rattle.document.specs.Stands.{Stands}
use Rattle.steps.proofs.Adjusted.{length_adjust}
use Rattle.steps.proofs.Held.{holders_adjust, length_holders, holders_at, below_at}
use Rattle.steps.proofs.Told.{SortFine, CellFine}
use Rattle.steps.proofs.Good.{Good, last_push, last_adjust, is_at, some_first, each_at, start}
use Rattle.document.proofs.Agreed.{Agrees, agrees_build, stands_build, open_at}
use Rattle.document.proofs.Checked.{agrees}
use Rattle.document.proofs.Adding.{built, same_built, passed}

abbrev pub undo_begin : Built → Built
undo_begin m =
    built (adjust_at (last m.cells).holder less (take (length m.cells - 1) m.cells))
    (take (cut_at (last m.cells).sort (length m.points)) m.points) (take (last m.cells).name.start m.names) (last m.cells).holder
    (shallower (last m.cells).sort m.depth)

abbrev pub undo_close : Built → Built
undo_close m =
    built (adjust m.cells (length m.cells - 1) unshut) m.points m.names
    (ups (holders m.cells) ((last m.cells).closes - 1) (start (last m.cells) (length m.cells - 1))) (m.depth + 1)

-- ---- each change undone

less_more_in : (s : Sort) → less_in (more_in s) ≡ s
less_more_in (Put Nothing) = refl
less_more_in (Put (Logic b)) = refl
less_more_in (Put (Char n)) = refl
less_more_in (Put (Integer z)) = refl
less_more_in (Put (Float n)) = refl
less_more_in (Put (Text k h p)) = refl
less_more_in (Open h n) = let e : n + 1 - 1 ≡ n = omega arith in ap (λ i. Open h i) e
less_more_in (Share s t) = refl

shallower_deeper : (s : Sort) (d : ℕ) → shallower s (deeper s d) ≡ d
shallower_deeper (Put Nothing) d = refl
shallower_deeper (Put (Logic b)) d = refl
shallower_deeper (Put (Char n)) d = refl
shallower_deeper (Put (Integer z)) d = refl
shallower_deeper (Put (Float n)) d = refl
shallower_deeper (Put (Text k h p)) d = refl
shallower_deeper (Open h n) d = omega arith
shallower_deeper (Share s t) d = refl

abbrev with_sort : Cell → Sort → Cell
with_sort c s = record { new_line = c.new_line; name = c.name; holder = c.holder; closes = c.closes; sort = s }

abbrev with_closes : Cell → ℕ → Cell
with_closes c n = record { new_line = c.new_line; name = c.name; holder = c.holder; closes = n; sort = c.sort }

less_more : (c : Cell) → less (more c) ≡ c
less_more c = ap (with_sort c) (less_more_in c.sort)

unshut_shut : (c : Cell) → unshut (shut c) ≡ c
unshut_shut c = let e : c.closes + 1 - 1 ≡ c.closes = omega arith in ap (with_closes c) e

adjust_back : (cs : List Cell) (i : ℕ) (f g : Cell → Cell) → ((c : Cell) → g (f c) ≡ c) → adjust (adjust cs i f) i g ≡ cs
adjust_back [] i f g h = refl
adjust_back (c ∷ cs) zero f g h = ap (λ d. d ∷ cs) (h c)
adjust_back (c ∷ cs) (suc i) f g h = ap (λ ds. c ∷ ds) (adjust_back cs i f g h)

adjust_at_back : (o : Node) (cs : List Cell) → adjust_at o less (adjust_at o more cs) ≡ cs
adjust_at_back Root cs = refl
adjust_at_back (At i) cs = adjust_back cs i more less less_more

cut_points : (b : Begun) (p : List ℕ) → take (cut_at (sort_of (length p) b) (length (p ++ codepoints_of b))) (p ++ codepoints_of b) ≡ p
cut_points (put none) p = take_all _ (p ++ []) (omega arith) ∙ append-nil p
cut_points (put (logic b)) p = take_all _ (p ++ []) (omega arith) ∙ append-nil p
cut_points (put (char n)) p = take_all _ (p ++ []) (omega arith) ∙ append-nil p
cut_points (put (integer z)) p = take_all _ (p ++ []) (omega arith) ∙ append-nil p
cut_points (put (float n)) p = take_all _ (p ++ []) (omega arith) ∙ append-nil p
cut_points (put (text k h ps)) p = take_at p ps (length p) refl
cut_points (open' h) p = take_all _ (p ++ []) (omega arith) ∙ append-nil p
cut_points (share s t) p = take_all _ (p ++ []) (omega arith) ∙ append-nil p

undone_begin : (m : Built) (l : Tag) (b : Begun) → undo_begin (apply (begin l b) m) ≡ m
undone_begin m l b =
    let adj = adjust_at m.innermost more m.cells in
    let cs = (apply (begin l b) m).cells in
    let q = m.points ++ codepoints_of b in
    let z : last cs ≡ new_cell l b m = last_push adj (new_cell l b m) in
    let n : length adj ≡ length cs - 1 = omega (arith, length-append adj (new_cell l b m ∷ [])) in
    same_built (undo_begin (apply (begin l b) m)) m
    (ap (λ c. adjust_at c.holder less (take (length cs - 1) cs)) z
    ∙ ap (λ xs. adjust_at m.innermost less xs) (take_at adj (new_cell l b m ∷ []) (length cs - 1) n)
    ∙ adjust_at_back m.innermost m.cells)
    (ap (λ c. take (cut_at c.sort (length q)) q) z ∙ cut_points b m.points)
    (ap (λ c. take c.name.start (m.names ++ l.name)) z ∙ take_at m.names l.name (length m.names) refl)
    (ap (λ c. c.holder) z)
    (ap (λ c. shallower c.sort (apply (begin l b) m).depth) z ∙ shallower_deeper (sort_of (length m.points) b) m.depth)

open_deep : (os : List Opened) (d : ℕ) → is_at (innermost os) ≡ true → d ≡ length os → d - 1 + 1 ≡ d
open_deep [] d ok e = absurd cc
open_deep (o ∷ os) d ok e = omega arith

undone_close : (e : Steps) (m : Built) → is_at m.innermost ≡ true → Agrees e m → undo_close (apply close m) ≡ m
undone_close e m ok a =
    let g = a.good in
    let cs = (apply close m).cells in
    let k : length cs ≡ length m.cells = length_adjust m.cells (length m.cells - 1) shut in
    let f : 0 < length m.cells = some_first m.cells m.innermost ok g.open_one in
    let z : last cs ≡ shut (last m.cells) = last_adjust m.cells shut f in
    let hs : holders cs ≡ holders m.cells = holders_adjust m.cells (length m.cells - 1) shut (λ c. refl) in
    let n : (last m.cells).closes + 1 - 1 ≡ (last m.cells).closes = omega arith in
    same_built (undo_close (apply close m)) m
    (ap (λ i. adjust cs (i - 1) unshut) k ∙ adjust_back m.cells (length m.cells - 1) shut unshut unshut_shut) refl refl
    (ap (λ c. ups (holders cs) (c.closes - 1) (start c (length cs - 1))) z
    ∙ ap (λ os. ups os ((last m.cells).closes + 1 - 1) (start (last m.cells) (length cs - 1))) hs
    ∙ ap (λ i. ups (holders m.cells) ((last m.cells).closes + 1 - 1) (start (last m.cells) (i - 1))) k
    ∙ ap (λ i. ups (holders m.cells) i (start (last m.cells) (length m.cells - 1))) n
    ∙ sym g.chain)
    (open_deep (opened e) m.depth (ap is_at (sym a.inner_is) ∙ ok) a.depth_is)

-- ---- the newest step undone

pub record Undone (M : Memory) (m n : Built) : Type 0 where
  pub step : Step
  pub told : steps m ≡ step ∷ steps n
  pub stands : Stands M n

lawful_by : (M : Memory) (m : Built) (s : Step) (e : Steps) → Stands M m → steps m ≡ s ∷ e → Lawful M (s ∷ e)
lawful_by M m s e k is = subst (Lawful M) is k.lawful

undone : (M : Memory) (m n : Built) (s : Step) (e : Steps) → Stands M m → steps m ≡ s ∷ e → n ≡ build e → Undone M m n
undone M m n s e k is b =
    let l = lawful_by M m s e k is in
    let t : steps (build e) ≡ e = (agrees_build M e l.0).told in
    record { step = s; told = is ∙ ap (λ xs. s ∷ xs) (sym t ∙ ap steps (sym b)); stands = subst (Stands M) (sym b) (stands_build M e l.0) }

begun_by : (M : Memory) (m : Built) (s : Step) (e : Steps) → Stands M m → steps m ≡ s ∷ e → (last m.cells).closes ≡ 0 → undo_begin m ≡ build e
begun_by M m (begin l b) e k is z = ap undo_begin (k.built ∙ ap build is) ∙ undone_begin (build e) l b
begun_by M m close e k is z =
    let l = lawful_by M m close e k is in
    let a = agrees_build M e l.0 in
    let f : 0 < length (build e).cells = some_first (build e).cells (build e).innermost (open_at M e (build e) a l.1) a.good.open_one in
    let w : m ≡ apply close (build e) = k.built ∙ ap build is in
    let c : (last m.cells).closes ≡ (last (build e).cells).closes + 1 = ap (λ x. (last x.cells).closes) w ∙ ap (λ x. x.closes) (last_adjust (build e).cells shut f) in
    absurd (omega (arith, c, z))

closed_by : (M : Memory) (m : Built) (s : Step) (e : Steps) → Stands M m → steps m ≡ s ∷ e → 0 < (last m.cells).closes → undo_close m ≡ build e
closed_by M m (begin l b) e k is z =
    let w : m ≡ apply (begin l b) (build e) = k.built ∙ ap build is in
    let c : (last m.cells).closes ≡ 0 =
    ap (λ x. (last x.cells).closes) w ∙ ap (λ x. x.closes) (last_push (adjust_at (build e).innermost more (build e).cells) (new_cell l b (build e))) in
    absurd (omega (arith, c, z))
closed_by M m close e k is z =
    let l = lawful_by M m close e k is in
    let a = agrees_build M e l.0 in
    ap undo_close (k.built ∙ ap build is) ∙ undone_close e (build e) (open_at M e (build e) a l.1) a

with_begin : (M : Memory) (m : Built) (ss : Steps) → Stands M m → steps m ≡ ss → 0 < length m.cells → (last m.cells).closes ≡ 0 → Undone M m (undo_begin m)
with_begin M m [] k is l z = let e : m ≡ empty = k.built ∙ ap build is in absurd (omega (arith, l, ap (λ x. length x.cells) e))
with_begin M m (s ∷ e) k is l z = undone M m (undo_begin m) s e k is (begun_by M m s e k is z)

with_close : (M : Memory) (m : Built) (ss : Steps) → Stands M m → steps m ≡ ss → 0 < length m.cells → 0 < (last m.cells).closes → Undone M m (undo_close m)
with_close M m [] k is l z = let e : m ≡ empty = k.built ∙ ap build is in absurd (omega (arith, l, ap (λ x. length x.cells) e))
with_close M m (s ∷ e) k is l z = undone M m (undo_close m) s e k is (closed_by M m s e k is z)

-- ---- as the functions do it

pub none_stands : (p n : List ℕ) (cs : List Cell) → length cs ≡ 0 → tell p n cs ≡ []
none_stands p n [] e = refl
none_stands p n (c ∷ cs) e = absurd (omega arith)

pub last_held : (m : Built) (n : ℕ) → Good m → length m.cells ≡ n + 1 → Under n (cell_at m.cells n).holder
last_held m n g l = subst (Under n) (holders_at m.cells n) (below_at 0 n n (holders m.cells) g.below (omega (arith, l, length_holders m.cells)) (omega arith))

pub cut_fine : (P K : ℕ) (s : Sort) → SortFine P K s → cut_at s P ≤ P
cut_fine P K (Put Nothing) h = omega arith
cut_fine P K (Put (Logic b)) h = omega arith
cut_fine P K (Put (Char n)) h = omega arith
cut_fine P K (Put (Integer z)) h = omega arith
cut_fine P K (Put (Float n)) h = omega arith
cut_fine P K (Put (Text k x s)) h = omega (arith, h)
cut_fine P K (Open x n) h = omega arith
cut_fine P K (Share x t) h = omega arith

pub last_fine : (m : Built) (n : ℕ) → Good m → length m.cells ≡ n + 1 → CellFine (length m.points) (length m.names) (length m.cells) (cell_at m.cells n)
last_fine m n g l = each_at (CellFine (length m.points) (length m.names) (length m.cells)) m.cells n blank (omega (arith, l)) g.each

last_is : (m : Built) (n : ℕ) (c : Cell) → length m.cells ≡ n + 1 → c ≡ cell_at m.cells n → c ≡ last m.cells
last_is m n c l e = let i : n ≡ length m.cells - 1 = omega arith in e ∙ ap (cell_at m.cells) i

pub removed : (M : Memory) (m t : Built) (c : Cell) (n all before : ℕ) (cs : List Cell) → Stands M m → length m.cells ≡ n + 1 → c ≡ cell_at m.cells n → c.closes ≡ 0 → all ≡ length m.points → before ≡ cut_at c.sort all → cs ≡ take n m.cells → t.cells ≡ adjust_at c.holder less cs → t.points ≡ take before m.points → t.names ≡ take c.name.start m.names → t.innermost ≡ c.holder → t.depth ≡ shallower c.sort m.depth → Undone M m t
removed M m t c n all before cs k l e z counted stood cut lowered pointed named inner deep =
    let i : n ≡ length m.cells - 1 = omega arith in
    let w : c ≡ last m.cells = last_is m n c l e in
    let same : t ≡ undo_begin m =
    same_built t (undo_begin m)
    (lowered ∙ ap (adjust_at c.holder less) (cut ∙ ap (λ j. take j m.cells) i) ∙ ap (λ d. adjust_at d.holder less (take (length m.cells - 1) m.cells)) w)
    (pointed ∙ ap (λ j. take j m.points) (stood ∙ ap (cut_at c.sort) counted) ∙ ap (λ d. take (cut_at d.sort (length m.points)) m.points) w)
    (named ∙ ap (λ d. take d.name.start m.names) w) (inner ∙ ap (λ d. d.holder) w) (deep ∙ ap (λ d. shallower d.sort m.depth) w) in
    subst (Undone M m) (sym same) (with_begin M m (steps m) k refl (omega arith) (ap (λ d. d.closes) (sym w) ∙ z))

pub reopened : (M : Memory) (m t : Built) (c : Cell) (n : ℕ) (from : Node) → Stands M m → length m.cells ≡ n + 1 → c ≡ cell_at m.cells n → 0 < c.closes → from ≡ inside c.sort n c.holder → t.cells ≡ adjust m.cells n unshut → t.points ≡ m.points → t.names ≡ m.names → t.innermost ≡ ups (holders m.cells) (c.closes - 1) from → t.depth ≡ m.depth + 1 → Undone M m t
reopened M m t c n from k l e z began opened pointed named climbed deep =
    let i : n ≡ length m.cells - 1 = omega arith in
    let w : c ≡ last m.cells = last_is m n c l e in
    let same : t ≡ undo_close m =
    same_built t (undo_close m) (opened ∙ ap (λ j. adjust m.cells j unshut) i) pointed named
    (climbed ∙ ap (ups (holders m.cells) (c.closes - 1)) (began ∙ ap (λ j. start c j) i)
    ∙ ap (λ d. ups (holders m.cells) (d.closes - 1) (start d (length m.cells - 1))) w) deep in
    let more : 0 < (last m.cells).closes = subst (λ d. 0 < d.closes) w z in
    subst (Undone M m) (sym same) (with_close M m (steps m) k refl (omega arith) more)

-- the same memory is lent, and what is left stands in it
pub stands_in : (M N : Memory) (m n : Built) → Undone M m n → N ≡ M → Stands N n
stands_in M N m n u e = subst (λ x. Stands x n) (sym e) u.stands

-- ---- the depth stays small

tail_short : (os : List Opened) (n : ℕ) → length os ≤ n → length (tail os) ≤ n
tail_short [] n l = l
tail_short (o ∷ os) n l = omega arith

pub shallow : (M : Memory) (e : Steps) → Lawful M e → length (opened e) ≤ deepest
shallow M [] l = omega arith
shallow M (begin t (put v) ∷ e) l = shallow M e l.0
shallow M (begin t (open' h) ∷ e) l = let d = ltb-true (length (opened e)) deepest (passed M e t (open' h) l.1).0 in omega arith
shallow M (begin t (share s n) ∷ e) l = shallow M e l.0
shallow M (close ∷ e) l = tail_short (opened e) deepest (shallow M e l.0)

pub depth_small : (s : Store) → s.depth ≤ deepest
depth_small s = let a = shallow (memory_lent s) (standing s) s.stands.lawful in omega (arith, (agrees s).depth_is)
