-- What the memory that steps build is like.
use Rattle.std.proofs.Common.{◌≡◌, ℕ, zero, suc, ◌+◌, ◌-◌, ◌<◌, ◌≤◌, Bool, true, false, List, [], ◌∷◌, ◌++◌, length, get_or, sym, refl, ap, ◌∙◌, subst, add-one, arith}
use Rattle.std.proofs.lemmas.List.{length-append, get_or_at}
use Rattle.steps.specs.declared.parts.Node.{Node}
use Rattle.steps.specs.declared.parts.Node.TheVariants.{Root, At}
use Rattle.steps.specs.declared.parts.Sort.{Sort}
use Rattle.steps.specs.declared.parts.Content.TheVariants.{Nothing, Logic, Char, Integer, Float, Text}
use Rattle.steps.specs.declared.parts.Sort.TheVariants.{Put, Open, Share}
use Rattle.steps.specs.declared.parts.Cell.{Cell}
use Rattle.steps.specs.Adjust.{adjust}
use Rattle.steps.specs.Steps.{Tag, none, logic, char, integer, float, text, Begun, put, open', share, begin, close}
use Rattle.steps.specs.Law.{codepoints_of}
use Rattle.steps.specs.Build.{Built, more, more_in, shut, adjust_at, sort_of, new_cell, apply, inside, last, holders, ups, blank, cell_at, holder_at, Under}
use Rattle.steps.proofs.Adjusted.{length_adjust, length_adjust_at}
use Rattle.steps.proofs.Held.{under_more, holders_adjust, holders_adjust_at, holders_push, length_holders, holders_at, Below, below_push, below_at}
use Rattle.steps.proofs.Told.{SortFine, CellFine, Each}

-- ---- facts on each cell

pub each_map : {Q R : Cell → Type 0} (cs : List Cell) → ((c : Cell) → Q c → R c) → Each Q cs → Each R cs
each_map [] keep h = tt
each_map (c ∷ cs) keep h = (keep c h.0, each_map cs keep h.1)

pub each_adjust : {Q R : Cell → Type 0} (cs : List Cell) (i : ℕ) (f : Cell → Cell) → ((c : Cell) → Q c → R c) → ((c : Cell) → Q c → R (f c)) → Each Q cs → Each R (adjust cs i f)
each_adjust [] i f keep change h = tt
each_adjust (c ∷ cs) zero f keep change h = (change c h.0, each_map cs keep h.1)
each_adjust (c ∷ cs) (suc i) f keep change h = (keep c h.0, each_adjust cs i f keep change h.1)

pub each_adjust_at : {Q R : Cell → Type 0} (o : Node) (cs : List Cell) (f : Cell → Cell) → ((c : Cell) → Q c → R c) → ((c : Cell) → Q c → R (f c)) → Each Q cs → Each R (adjust_at o f cs)
each_adjust_at Root cs f keep change h = each_map cs keep h
each_adjust_at (At i) cs f keep change h = each_adjust cs i f keep change h

pub each_push : (Q : Cell → Type 0) (cs : List Cell) (c : Cell) → Each Q cs → Q c → Each Q (cs ++ (c ∷ []))
each_push Q [] c h g = (g, tt)
each_push Q (d ∷ cs) c h g = (h.0, each_push Q cs c h.1 g)

pub each_at : (Q : Cell → Type 0) (cs : List Cell) (i : ℕ) (d : Cell) → i < length cs → Each Q cs → Q (get_or cs i d)
each_at Q [] i d l h = absurd (omega (arith, l))
each_at Q (c ∷ cs) zero d l h = h.0
each_at Q (c ∷ cs) (suc i) d l h = each_at Q cs i d (omega (arith, l)) h.1

pub sort_fine_more : (P P' K K' : ℕ) (s : Sort) → P ≤ P' → K ≤ K' → SortFine P K s → SortFine P' K' s
sort_fine_more P P' K K' (Put Nothing) a b h = tt
sort_fine_more P P' K K' (Put (Logic x)) a b h = tt
sort_fine_more P P' K K' (Put (Char n)) a b h = tt
sort_fine_more P P' K K' (Put (Integer z)) a b h = tt
sort_fine_more P P' K K' (Put (Float n)) a b h = tt
sort_fine_more P P' K K' (Put (Text k x s)) a b h = omega (arith, a, h)
sort_fine_more P P' K K' (Open x n) a b h = omega (arith, b, h)
sort_fine_more P P' K K' (Share x t) a b h = tt

pub sort_fine_raised : (P P' K K' : ℕ) (s : Sort) → P ≤ P' → K + 1 ≤ K' → SortFine P K s → SortFine P' K' (more_in s)
sort_fine_raised P P' K K' (Put Nothing) a b h = tt
sort_fine_raised P P' K K' (Put (Logic x)) a b h = tt
sort_fine_raised P P' K K' (Put (Char n)) a b h = tt
sort_fine_raised P P' K K' (Put (Integer z)) a b h = tt
sort_fine_raised P P' K K' (Put (Float n)) a b h = tt
sort_fine_raised P P' K K' (Put (Text k x s)) a b h = omega (arith, a, h)
sort_fine_raised P P' K K' (Open x n) a b h = omega (arith, b, h)
sort_fine_raised P P' K K' (Share x t) a b h = tt

pub fine_more : (P P' N N' K K' : ℕ) → P ≤ P' → N ≤ N' → K ≤ K' → (c : Cell) → CellFine P N K c → CellFine P' N' K' c
fine_more P P' N N' K K' a b d c h =
    record { named = omega (arith, b, h.named); sorted = sort_fine_more P P' K K' c.sort a d h.sorted; held = under_more K K' c.holder d h.held }

pub fine_raised : (P P' N N' K K' : ℕ) → P ≤ P' → N ≤ N' → K + 1 ≤ K' → (c : Cell) → CellFine P N K c → CellFine P' N' K' (more c)
fine_raised P P' N N' K K' a b d c h =
    let k : K ≤ K' = omega arith in
    record { named = omega (arith, b, h.named); sorted = sort_fine_raised P P' K K' c.sort a d h.sorted; held = under_more K K' c.holder k h.held }

-- ---- the last cell

pub last_push : (cs : List Cell) (c : Cell) → last (cs ++ (c ∷ [])) ≡ c
last_push cs c =
    let e : length (cs ++ (c ∷ [])) - 1 ≡ length cs = omega (arith, length-append cs (c ∷ [])) in
    ap (λ i. cell_at (cs ++ (c ∷ [])) i) e ∙ get_or_at cs c [] blank (length cs) refl

pub at_adjust : (cs : List Cell) (i : ℕ) (f : Cell → Cell) → i < length cs → cell_at (adjust cs i f) i ≡ f (cell_at cs i)
at_adjust [] i f l = absurd (omega (arith, l))
at_adjust (c ∷ cs) zero f l = refl
at_adjust (c ∷ cs) (suc i) f l = at_adjust cs i f (omega (arith, l))

pub last_adjust : (cs : List Cell) (f : Cell → Cell) → 0 < length cs → last (adjust cs (length cs - 1) f) ≡ f (last cs)
last_adjust cs f l =
    ap (λ n. cell_at (adjust cs (length cs - 1) f) (n - 1)) (length_adjust cs (length cs - 1) f) ∙ at_adjust cs (length cs - 1) f (omega arith)

-- the closes after the last value are fewer than the values after the innermost open one
abbrev pub Deep : List Cell → Node → Type 0
Deep cs Root = Unit {0}
Deep cs (At i) = i + (last cs).closes < length cs

-- the innermost open value right after the value began
abbrev pub start : Cell → ℕ → Node
start c n = inside c.sort n c.holder

-- ---- a memory that steps build

pub record Good (m : Built) : Type 0 where
  pub each : Each (CellFine (length m.points) (length m.names) (length m.cells)) m.cells
  pub open_one : Under (length m.cells) m.innermost
  pub below : Below 0 (holders m.cells)
  pub deep : Deep m.cells m.innermost
  pub chain : m.innermost ≡ ups (holders m.cells) (last m.cells).closes (start (last m.cells) (length m.cells - 1))

pub new_sort_fine : (p q K : ℕ) (b : Begun) → q ≡ p + length (codepoints_of b) → SortFine q K (sort_of p b)
new_sort_fine p q K (put none) e = tt
new_sort_fine p q K (put (logic b)) e = tt
new_sort_fine p q K (put (char n)) e = tt
new_sort_fine p q K (put (integer z)) e = tt
new_sort_fine p q K (put (float n)) e = tt
new_sort_fine p q K (put (text k h ps)) e = omega (arith, e)
new_sort_fine p q K (open' h) e = omega arith
new_sort_fine p q K (share s t) e = tt

pub inside_under : (s : Sort) (n K : ℕ) (o : Node) → n < K → Under n o → Under K (inside s n o)
inside_under (Put Nothing) n K o l h = under_more n K o (omega (arith, l)) h
inside_under (Put (Logic b)) n K o l h = under_more n K o (omega (arith, l)) h
inside_under (Put (Char c)) n K o l h = under_more n K o (omega (arith, l)) h
inside_under (Put (Integer z)) n K o l h = under_more n K o (omega (arith, l)) h
inside_under (Put (Float f)) n K o l h = under_more n K o (omega (arith, l)) h
inside_under (Put (Text k x p)) n K o l h = under_more n K o (omega (arith, l)) h
inside_under (Open x c) n K o l h = l
inside_under (Share x t) n K o l h = under_more n K o (omega (arith, l)) h

pub deep_new : (cs : List Cell) (o : Node) → (last cs).closes ≡ 0 → Under (length cs) o → Deep cs o
deep_new cs Root e u = tt
deep_new cs (At i) e u = omega (arith, e, u)

pub good_begin : (m : Built) (l : Tag) (b : Begun) → Good m → Good (apply (begin l b) m)
good_begin m l b g =
    let k : length (apply (begin l b) m).cells ≡ length m.cells + 1 =
    length-append (adjust_at m.innermost more m.cells) (new_cell l b m ∷ []) ∙ ap (λ i. i + 1) (length_adjust_at m.innermost more m.cells) in
    let n : length (m.names ++ l.name) ≡ length m.names + length l.name = length-append m.names l.name in
    let p : length (m.points ++ codepoints_of b) ≡ length m.points + length (codepoints_of b) = length-append m.points (codepoints_of b) in
    let z : last (apply (begin l b) m).cells ≡ new_cell l b m = last_push (adjust_at m.innermost more m.cells) (new_cell l b m) in
    let i : length m.cells ≡ length (apply (begin l b) m).cells - 1 = omega arith in
    let hs : holders (apply (begin l b) m).cells ≡ holders m.cells ++ (m.innermost ∷ []) =
    holders_push (adjust_at m.innermost more m.cells) (new_cell l b m)
    ∙ ap (λ os. os ++ (m.innermost ∷ [])) (holders_adjust_at m.innermost m.cells more (λ c. refl)) in
    let u : Under (length (apply (begin l b) m).cells) (apply (begin l b) m).innermost =
    inside_under (sort_of (length m.points) b) (length m.cells) _ m.innermost (omega arith) g.open_one in
    record {
      each =
          each_push (CellFine _ _ _) (adjust_at m.innermost more m.cells) (new_cell l b m)
          (each_adjust_at m.innermost m.cells more
          (fine_more (length m.points) _ (length m.names) _ (length m.cells) _ (omega arith) (omega arith) (omega arith))
          (fine_raised (length m.points) _ (length m.names) _ (length m.cells) _ (omega arith) (omega arith) (omega arith))
          g.each)
          (record {
            named = omega arith;
            sorted = new_sort_fine (length m.points) _ _ b p;
            held = under_more (length m.cells) _ m.innermost (omega arith) g.open_one;
          });
      open_one = u;
      below =
          subst (Below 0) (sym hs)
          (below_push 0 (length m.cells) (holders m.cells) m.innermost g.below (omega (arith, length_holders m.cells)) g.open_one);
      deep = deep_new (apply (begin l b) m).cells (apply (begin l b) m).innermost (ap (λ c. c.closes) z) u;
      chain =
          ap (λ i. start (new_cell l b m) i) i
          ∙ ap (λ c. ups (holders (apply (begin l b) m).cells) c.closes (start c (length (apply (begin l b) m).cells - 1))) (sym z);
    }

pub holder_under : (m : Built) (o : Node) → Good m → Under (length m.cells) o → Under (length m.cells) (holder_at m.cells o)
holder_under m Root g h = tt
holder_under m (At i) g h = (each_at (CellFine _ _ _) m.cells i _ h g.each).held

abbrev pub is_at : Node → Bool
is_at Root = false
is_at (At i) = true

pub some_first : {X : Type 0} (xs : List X) (o : Node) → is_at o ≡ true → Under (length xs) o → 0 < length xs
some_first xs Root e h = absurd cc
some_first xs (At i) e h = omega (arith, h)

pub deep_close : (cs ds : List Cell) (o q : Node) → Deep cs o → Below 0 (holders cs) → Under (length cs) o → q ≡ holder_at cs o → (last ds).closes ≡ (last cs).closes + 1 → length ds ≡ length cs → Deep ds q
deep_close cs ds o Root d b u e k l = tt
deep_close cs ds Root (At j) d b u e k l = absurd cc
deep_close cs ds (At i) (At j) d b u e k l =
    let h : Under i (get_or (holders cs) i Root) = below_at 0 i i (holders cs) b (omega (arith, u, length_holders cs)) (omega arith) in
    let lt : j < i = subst (λ p. Under i p) (holders_at cs i ∙ sym e) h in
    omega (arith, d, k, l, lt)

pub ups_holder : (cs : List Cell) (o : Node) → holder_at cs o ≡ ups (holders cs) 1 o
ups_holder cs Root = refl
ups_holder cs (At i) = sym (holders_at cs i)

pub good_close : (m : Built) → is_at m.innermost ≡ true → Good m → Good (apply close m)
good_close m ok g =
    let k : length (apply close m).cells ≡ length m.cells = length_adjust m.cells (length m.cells - 1) shut in
    let f : 0 < length m.cells = some_first m.cells m.innermost ok g.open_one in
    let z : last (apply close m).cells ≡ shut (last m.cells) = last_adjust m.cells shut f in
    let hs : holders (apply close m).cells ≡ holders m.cells = holders_adjust m.cells (length m.cells - 1) shut (λ c. refl) in
    record {
      each =
          each_adjust m.cells (length m.cells - 1) shut (fine_more _ _ _ _ _ _ (omega arith) (omega arith) (omega arith))
          (λ c h. record { named = h.named; sorted = sort_fine_more _ _ _ _ c.sort (omega arith) (omega arith) h.sorted; held = under_more _ _ c.holder (omega arith) h.held }) g.each;
      open_one = under_more _ _ (holder_at m.cells m.innermost) (omega arith) (holder_under m m.innermost g g.open_one);
      below = subst (Below 0) (sym hs) g.below;
      deep =
          deep_close m.cells (apply close m).cells m.innermost (holder_at m.cells m.innermost) g.deep g.below g.open_one refl
          (ap (λ c. c.closes) z) k;
      chain =
          ups_holder m.cells m.innermost
          ∙ ap (λ o. ups (holders m.cells) 1 o) g.chain
          ∙ ap (λ n. ups (holders m.cells) n (start (last m.cells) (length m.cells - 1))) (sym (add-one (last m.cells).closes))
          ∙ ap (λ os. ups os ((last m.cells).closes + 1) (start (last m.cells) (length m.cells - 1))) (sym hs)
          ∙ ap (λ n. ups (holders (apply close m).cells) ((last m.cells).closes + 1) (start (last m.cells) (n - 1))) (sym k)
          ∙ ap (λ c. ups (holders (apply close m).cells) c.closes (start c (length (apply close m).cells - 1))) (sym z);
    }
