-- The memory that lawful steps build agrees with their outline, and tells of just those steps.
use Rattle.std.proofs.Common.{◌≡◌, ℕ, ◌+◌, ◌-◌, ◌<◌, true, ltb, List, [], ◌∷◌, ◌++◌, length, None, sym, refl, ap, ◌∙◌, subst, arith}
use mathlib.Core.List.{tail}
use Rattle.std.proofs.lemmas.List.{length-append}
use Rattle.refusal.specs.declared.Reason.TheVariants.{NothingThere}
use Rattle.steps.specs.declared.parts.Node.{Node}
use Rattle.steps.specs.declared.parts.Cell.{Cell}
use Rattle.steps.specs.Steps.{Tag, none, logic, char, integer, float, text, Begun, put, open', share, Step, begin, close, Steps}
use Rattle.steps.specs.Outline.{Entry, Opened, innermost, opening, values, opened, entry_at}
use Rattle.steps.specs.Law.{Memory, cells, points, names, used, codepoints_of, refusal, unless, Lawful}
use Rattle.steps.specs.Build.{Built, more, shut, adjust_at, sort_of, new_cell, apply, build, inside, deeper, holder_at, cell_at, entry_of, steps}
use Rattle.document.specs.Stands.{Stands}
use Rattle.steps.proofs.Adjusted.{length_adjust, length_adjust_at}
use Rattle.steps.proofs.Told.{entries, tell_push, tell_adjust_at, tell_shut, tell_grow, entries_push, entries_adjust, entries_adjust_at, entries_grow, part_end, begun_end}
use Rattle.steps.proofs.Good.{Good, good_begin, good_close, is_at, some_first}
use Rattle.steps.proofs.Entered.{Linked, linked, length_entries, entry_cell}

pub record Agrees (e : Steps) (m : Built) : Type 0 where
  pub good : Good m
  pub told : steps m ≡ e
  pub inner_is : m.innermost ≡ innermost (opened e)
  pub depth_is : m.depth ≡ length (opened e)
  pub valued : entries m.points m.names m.cells ≡ values e
  pub cells_used : length m.cells ≡ used e cells
  pub points_used : length m.points ≡ used e points
  pub names_used : length m.names ≡ used e names

pub value_count : (e : Steps) (m : Built) → Agrees e m → length m.cells ≡ length (values e)
value_count e m a = sym (length_entries m.points m.names m.cells) ∙ ap length a.valued

-- ---- a value begins

inside_opening : (p n : ℕ) (b : Begun) (o : Node) (os : List Opened) → o ≡ innermost os → inside (sort_of p b) n o ≡ innermost (opening b n os)
inside_opening p n (put none) o os e = e
inside_opening p n (put (logic b)) o os e = e
inside_opening p n (put (char c)) o os e = e
inside_opening p n (put (integer z)) o os e = e
inside_opening p n (put (float f)) o os e = e
inside_opening p n (put (text k h ps)) o os e = e
inside_opening p n (open' h) o os e = refl
inside_opening p n (share s t) o os e = e

deeper_opening : (p n : ℕ) (b : Begun) (d : ℕ) (os : List Opened) → d ≡ length os → deeper (sort_of p b) d ≡ length (opening b n os)
deeper_opening p n (put none) d os e = e
deeper_opening p n (put (logic b)) d os e = e
deeper_opening p n (put (char c)) d os e = e
deeper_opening p n (put (integer z)) d os e = e
deeper_opening p n (put (float f)) d os e = e
deeper_opening p n (put (text k h ps)) d os e = e
deeper_opening p n (open' h) d os e = omega arith
deeper_opening p n (share s t) d os e = e

pub told_begin : (m : Built) (l : Tag) (b : Begun) → Good m → steps (apply (begin l b) m) ≡ begin l b ∷ steps m
told_begin m l b g =
    let q = m.points ++ codepoints_of b in
    let n = m.names ++ l.name in
    let x = new_cell l b m in
    tell_push q n (adjust_at m.innermost more m.cells) x
    ∙ ap (λ ys. begin (entry_of q n x).label (entry_of q n x).begun ∷ ys)
    (tell_adjust_at q n m.cells m.innermost ∙ tell_grow m.points (codepoints_of b) m.names l.name _ m.cells g.each)
    ∙ ap (λ y. begin (record { new_line = l.new_line; name = y }) (entry_of q n x).begun ∷ steps m) (part_end m.names l.name)
    ∙ ap (λ y. begin l y ∷ steps m) (begun_end m.points b)

agrees_begin : (e : Steps) (m : Built) (l : Tag) (b : Begun) → Agrees e m → Agrees (begin l b ∷ e) (apply (begin l b) m)
agrees_begin e m l b a =
    let q = m.points ++ codepoints_of b in
    let n = m.names ++ l.name in
    let x = new_cell l b m in
    record {
      good = good_begin m l b a.good;
      told = told_begin m l b a.good ∙ ap (λ ys. begin l b ∷ ys) a.told;
      inner_is =
          inside_opening (length m.points) (length m.cells) b m.innermost (opened e) a.inner_is
          ∙ ap (λ i. innermost (opening b i (opened e))) (value_count e m a);
      depth_is = deeper_opening (length m.points) (length (values e)) b m.depth (opened e) a.depth_is;
      valued =
          entries_push q n (adjust_at m.innermost more m.cells) x
          ∙ ap (λ ys. entry_of q n x ∷ ys)
          (entries_adjust_at q n m.cells m.innermost ∙ entries_grow m.points (codepoints_of b) m.names l.name _ m.cells a.good.each ∙ a.valued)
          ∙ ap (λ y. record { label = record { new_line = l.new_line; name = y }; begun = (entry_of q n x).begun; holder = m.innermost } ∷ values e) (part_end m.names l.name)
          ∙ ap (λ y. record { label = l; begun = y; holder = m.innermost } ∷ values e) (begun_end m.points b)
          ∙ ap (λ y. record { label = l; begun = b; holder = y } ∷ values e) a.inner_is;
      cells_used =
          length-append (adjust_at m.innermost more m.cells) (x ∷ []) ∙ ap (λ i. i + 1) (length_adjust_at m.innermost more m.cells ∙ a.cells_used);
      points_used = length-append m.points (codepoints_of b) ∙ ap (λ i. i + length (codepoints_of b)) a.points_used;
      names_used = length-append m.names l.name ∙ ap (λ i. i + length l.name) a.names_used;
    }

-- ---- a close

pub close_inner : (p n : List ℕ) (cs : List Cell) (xs : List Entry) (o : Node) (os : List Opened) → entries p n cs ≡ xs → Linked xs os → o ≡ innermost os → holder_at cs o ≡ innermost (tail os)
close_inner p n cs xs o [] v h e = ap (holder_at cs) e
close_inner p n cs xs o (a ∷ os) v h e =
    let l : a.number < length cs = omega (arith, h.0, length_entries p n cs, ap length v) in
    let c = entry_cell p n cs a.number l in
    let y : Entry = record { label = h.1.0; begun = open' a.holder; holder = innermost os } in
    let f : entry_of p n (cell_at cs a.number) ≡ y = cc (c, h.1.1, ap (λ zs. entry_at zs a.number) v) in
    ap (holder_at cs) e ∙ ap (λ x. x.holder) f

close_depth : (d : ℕ) (os : List Opened) → d ≡ length os → d - 1 ≡ length (tail os)
close_depth d [] e = omega arith
close_depth d (o ∷ os) e = omega arith

pub close_open : (os : List Opened) → unless (ltb 0 (length os)) NothingThere None ≡ None → is_at (innermost os) ≡ true
close_open [] h = absurd cc
close_open (o ∷ os) h = refl

pub told_close : (m : Built) → is_at m.innermost ≡ true → Good m → steps (apply close m) ≡ close ∷ steps m
told_close m ok g =
    let h : 0 < length m.cells = some_first m.cells m.innermost ok g.open_one in
    tell_shut m.points m.names m.cells (length m.cells - 1) (omega arith)

agrees_close : (e : Steps) (m : Built) → is_at m.innermost ≡ true → Agrees e m → Agrees (close ∷ e) (apply close m)
agrees_close e m ok a =
    record {
      good = good_close m ok a.good;
      told = told_close m ok a.good ∙ ap (λ ys. close ∷ ys) a.told;
      inner_is = close_inner m.points m.names m.cells (values e) m.innermost (opened e) a.valued (linked e) a.inner_is;
      depth_is = close_depth m.depth (opened e) a.depth_is;
      valued = entries_adjust m.points m.names shut (λ c. refl) m.cells (length m.cells - 1) ∙ a.valued;
      cells_used = length_adjust m.cells (length m.cells - 1) shut ∙ a.cells_used;
      points_used = a.points_used;
      names_used = a.names_used;
    }

-- ---- lawful steps

pub open_at : (M : Memory) (e : Steps) (m : Built) → Agrees e m → refusal M e close ≡ None → is_at m.innermost ≡ true
open_at M e m a h = ap is_at a.inner_is ∙ close_open (opened e) h

pub agrees_apply : (M : Memory) (s : Step) (e : Steps) (m : Built) → refusal M e s ≡ None → Agrees e m → Agrees (s ∷ e) (apply s m)
agrees_apply M (begin l b) e m h a = agrees_begin e m l b a
agrees_apply M close e m h a = agrees_close e m (open_at M e m a h) a

pub agrees_build : (M : Memory) (e : Steps) → Lawful M e → Agrees e (build e)
agrees_build M [] l =
    record {
      good = record { each = tt; open_one = tt; below = tt; deep = tt; chain = refl };
      told = refl;
      inner_is = refl;
      depth_is = refl;
      valued = refl;
      cells_used = refl;
      points_used = refl;
      names_used = refl;
    }
agrees_build M (s ∷ e) l = agrees_apply M s e (build e) l.1 (agrees_build M e l.0)

-- ---- what a store keeps

pub stands_agrees : (M : Memory) (m : Built) → Stands M m → Agrees (steps m) m
stands_agrees M m k = subst (Agrees (steps m)) (sym k.built) (agrees_build M (steps m) k.lawful)

pub stands_build : (M : Memory) (e : Steps) → Lawful M e → Stands M (build e)
stands_build M e l =
    let t = (agrees_build M e l).told in
    record { built = ap build (sym t); lawful = subst (Lawful M) (sym t) l }

-- a step that is accepted
pub record Added (M : Memory) (s : Step) (m n : Built) : Type 0 where
  pub told : steps n ≡ s ∷ steps m
  pub stands : Stands M n

pub added : (M : Memory) (s : Step) (m n : Built) → Stands M m → refusal M (steps m) s ≡ None → n ≡ apply s m → Added M s m n
added M s m n k h is =
    let b : n ≡ build (s ∷ steps m) = is ∙ ap (apply s) k.built in
    let l : Lawful M (s ∷ steps m) = (k.lawful, h) in
    record {
      told = ap steps b ∙ (agrees_build M (s ∷ steps m) l).told;
      stands = subst (Stands M) (sym b) (stands_build M (s ∷ steps m) l);
    }
