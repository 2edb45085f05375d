-- What a store's checks read off its cells.
use Rattle.std.proofs.Common.{◌≡◌, ℕ, ◌+◌, ◌<◌, ◌≤◌, min, Bool, true, false, ◌&&◌, ltb, leb, List, [], ◌∷◌, length, sym, refl, ap, ◌∙◌, subst, arith}
use Rattle.std.proofs.lemmas.Bool.{lt-ltb, le-ltb}
use Rattle.steps.specs.declared.parts.Family.{Family}
use Rattle.steps.specs.declared.parts.Node.TheVariants.{Root, At}
use Rattle.steps.specs.declared.parts.Sort.{Sort}
use Rattle.steps.specs.declared.parts.Content.TheVariants.{Nothing, Logic, Char, Integer, Float, Text}
use Rattle.steps.specs.declared.parts.Sort.TheVariants.{Put, Open, Share}
use Rattle.steps.specs.declared.parts.Cell.{Cell}
use Rattle.document.specs.declared.store.Store.{Store}
use Rattle.steps.specs.Steps.{open'}
use Rattle.steps.specs.Outline.{Entry, Opened, innermost, in_object, values, opened, entry_at, begun_at, own_family, begun_suits, has_family}
use Rattle.steps.specs.Law.{so_much, usable, cells, points, names, used, deepest, has_room}
use Rattle.steps.specs.Items.{items, room}
use Rattle.steps.specs.Build.{begun_of, entry_of, cell_at, Under, sort_suits, sort_is_object, begun_object}
use Rattle.document.specs.Standing.{in_use, standing, memory_lent}
use Rattle.steps.proofs.Told.{entries}
use Rattle.steps.proofs.Entered.{Linked, linked, length_entries, entry_cell, entry_none, begun_entry, begun_in}
use Rattle.document.proofs.Agreed.{Agrees, stands_agrees}

pub agrees : (s : Store) → Agrees (standing s) (in_use s)
agrees s = stands_agrees (memory_lent s) (in_use s) s.stands

-- the innermost open value is in use
pub open_under : (s : Store) (i : ℕ) → s.innermost ≡ At i → i < length (items s.cells)
open_under s i e = subst (Under (length (items s.cells))) e (agrees s).good.open_one

-- ---- in an object

pub object_root : (os : List Opened) → Root ≡ innermost os → in_object os ≡ false
object_root [] e = refl
object_root (o ∷ os) e = absurd cc

pub object_sort : (p : List ℕ) (s : Sort) → begun_object (begun_of p s) ≡ sort_is_object s
object_sort p (Put Nothing) = refl
object_sort p (Put (Logic b)) = refl
object_sort p (Put (Char n)) = refl
object_sort p (Put (Integer z)) = refl
object_sort p (Put (Float n)) = refl
object_sort p (Put (Text k h s)) = refl
object_sort p (Open h n) = refl
object_sort p (Share s t) = refl

pub object_at : (p n : List ℕ) (cs : List Cell) (xs : List Entry) (os : List Opened) (i : ℕ) → entries p n cs ≡ xs → Linked xs os → At i ≡ innermost os → sort_is_object (cell_at cs i).sort ≡ in_object os
object_at p n cs xs [] i v h e = absurd cc
object_at p n cs xs (a ∷ os) i v h e =
    let q : i ≡ a.number = cc in
    let l : a.number < length cs = omega (arith, h.0, length_entries p n cs, ap length v) in
    let c = entry_cell p n cs a.number l in
    let y : Entry = record { label = h.1.0; begun = open' a.holder; holder = innermost os } in
    let f : entry_of p n (cell_at cs a.number) ≡ y = cc (c, h.1.1, ap (λ zs. entry_at zs a.number) v) in
    ap (λ j. sort_is_object (cell_at cs j).sort) q ∙ sym (object_sort p (cell_at cs a.number).sort) ∙ ap (λ x. begun_object x.begun) f

pub in_root : (s : Store) → s.innermost ≡ Root → false ≡ in_object (opened (standing s))
in_root s e = sym (object_root (opened (standing s)) (sym e ∙ (agrees s).inner_is))

pub in_at : (s : Store) (i : ℕ) (r : Bool) (c : Cell) → s.innermost ≡ At i → r ≡ sort_is_object c.sort → c ≡ cell_at (items s.cells) i → r ≡ in_object (opened (standing s))
in_at s i r c e is got =
    let a = agrees s in
    is ∙ ap (λ d. sort_is_object d.sort) got
    ∙ object_at (items s.codepoints) (items s.names) (items s.cells) (values (standing s)) (opened (standing s)) i a.valued (linked (standing s)) (sym e ∙ a.inner_is)

-- ---- targets

family_sort : (p : List ℕ) (s : Sort) → own_family (begun_of p s) ≡ own_family (begun_of [] s)
family_sort p (Put Nothing) = refl
family_sort p (Put (Logic b)) = refl
family_sort p (Put (Char n)) = refl
family_sort p (Put (Integer z)) = refl
family_sort p (Put (Float n)) = refl
family_sort p (Put (Text k h s)) = refl
family_sort p (Open h n) = refl
family_sort p (Share s t) = refl

pub suits_at : (s : Store) (i : ℕ) (f : Family) (r : Bool) (c : Cell) → i < length (items s.cells) → r ≡ sort_suits c.sort f → c ≡ cell_at (items s.cells) i → r ≡ begun_suits (begun_at (values (standing s)) i) f
suits_at s i f r c l is got =
    let a = agrees s in
    let p = items s.codepoints in
    let cs = items s.cells in
    is ∙ ap (λ d. sort_suits d.sort f) got ∙ ap (λ o. has_family o f) (sym (family_sort p (cell_at cs i).sort))
    ∙ ap (λ o. begun_suits (begun_in o) f) (sym (entry_cell p (items s.names) cs i l) ∙ ap (λ zs. entry_at zs i) a.valued)
    ∙ ap (λ o. begun_suits o f) (sym (begun_entry (values (standing s)) i))

pub suits_none : (s : Store) (i : ℕ) (f : Family) → length (items s.cells) ≤ i → false ≡ begun_suits (begun_at (values (standing s)) i) f
suits_none s i f l =
    let a = agrees s in
    let n : length (values (standing s)) ≤ i = omega (arith, length_entries (items s.codepoints) (items s.names) (items s.cells), ap length a.valued) in
    ap (λ o. begun_suits (begun_in o) f) (sym (entry_none (values (standing s)) i n)) ∙ ap (λ o. begun_suits o f) (sym (begun_entry (values (standing s)) i))

-- ---- room

leb_same : (a b c d k : ℕ) → a ≡ b → c ≡ d → leb (a + k) c ≡ leb (b + k) d
leb_same a b c d k p q = cc

pub rooms : (s : Store) (c p n : ℕ) (x y z : Bool) → x ≡ leb (length (items s.cells) + c) (room s.cells) → y ≡ leb (length (items s.codepoints) + p) (room s.codepoints) → z ≡ leb (length (items s.names) + n) (room s.names) → x && (y && z) ≡ has_room (memory_lent s) (standing s) (so_much c p n)
rooms s c p n x y z a b d =
    let g = agrees s in
    let e = standing s in
    let m = memory_lent s in
    let x₁ : x ≡ leb (used e cells + c) (usable m cells) = a ∙ leb_same _ _ _ _ c g.cells_used (ap (min (m cells)) s.cells_bound) in
    let y₁ : y ≡ leb (used e points + p) (usable m points) = b ∙ leb_same _ _ _ _ p g.points_used (ap (min (m points)) s.points_bound) in
    let z₁ : z ≡ leb (used e names + n) (usable m names) = d ∙ leb_same _ _ _ _ n g.names_used (ap (min (m names)) s.names_bound) in
    ap (λ t. t && (y && z)) x₁ ∙ ap (λ t. leb (used e cells + c) (usable m cells) && (t && z)) y₁
    ∙ ap (λ t. leb (used e cells + c) (usable m cells) && (leb (used e points + p) (usable m points) && t)) z₁

-- ---- the first reason

pub deep_enough : (s : Store) → deepest ≤ s.depth → ltb (length (opened (standing s))) deepest ≡ false
deep_enough s l = let a = (agrees s).depth_is in le-ltb _ _ (omega arith)

pub not_deep : (s : Store) → s.depth < deepest → ltb (length (opened (standing s))) deepest ≡ true
not_deep s l = let a = (agrees s).depth_is in lt-ltb _ _ (omega arith)
