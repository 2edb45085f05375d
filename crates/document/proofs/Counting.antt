-- Each opened value's cell counts its inner values.
use Rattle.std.proofs.Common.{◌≡◌, ℕ, zero, suc, ◌+◌, ◌-◌, ◌<◌, ◌≤◌, true, false, List, [], ◌∷◌, ◌++◌, length, Some, sym, refl, ap, ◌∙◌, subst, ⊎_elim, arith, length-append}
use Rattle.std.proofs.lemmas.List.{append-nil, get_or_append_left, get_or_at}
use Rattle.std.proofs.lemmas.Bool.{eq-eqb, ne_eqb, cases_eq}
use Rattle.steps.specs.declared.parts.Node.{Node}
use Rattle.steps.specs.declared.parts.Node.TheVariants.{Root, At}
use Rattle.steps.specs.declared.parts.Holder.{Holder}
use Rattle.steps.specs.declared.parts.Sort.{Sort}
use Rattle.steps.specs.declared.parts.Content.TheVariants.{Nothing, Logic, Char, Integer, Float, Text}
use Rattle.steps.specs.declared.parts.Sort.TheVariants.{Put, Open, Share}
use Rattle.steps.specs.declared.parts.Cell.{Cell}
use Rattle.document.specs.declared.store.Store.{Store}
use Rattle.steps.specs.Adjust.{adjust}
use Rattle.steps.specs.Steps.{none, logic, char, integer, float, text, Begun, put, open', share, begin, close, Steps}
use Rattle.steps.specs.Outline.{Entry, Opened, innermost, values, opened, begun_at, same_holder, inner_names}
use Rattle.steps.specs.Law.{Memory, Lawful}
use Rattle.steps.specs.Items.{items}
use Rattle.steps.specs.Build.{more_in, more, shut, count_in, blank, cell_at, adjust_at, sort_of, new_cell, begun_of, build}
use Rattle.steps.proofs.Adjusted.{length_adjust, length_adjust_at}
use Rattle.steps.proofs.Entered.{Linked, linked, begun_entry, begun_in}
use Rattle.steps.proofs.Good.{at_adjust}
use Rattle.document.specs.Standing.{in_use, standing, memory_lent}
use Rattle.document.proofs.Agreed.{value_count, agrees_build}
use Rattle.document.proofs.Reading.{read_at}

-- the count of an opened value's cell is this
abbrev pub Counts : Sort → ℕ → Type 0
Counts (Put Nothing) n = Unit {0}
Counts (Put (Logic b)) n = Unit {0}
Counts (Put (Char c)) n = Unit {0}
Counts (Put (Integer z)) n = Unit {0}
Counts (Put (Float f)) n = Unit {0}
Counts (Put (Text k h p)) n = Unit {0}
Counts (Open h c) n = c ≡ n
Counts (Share s t) n = Unit {0}

-- so it is with each
abbrev pub AllCount : List Cell → List Entry → Type 0
AllCount cs xs = (n : ℕ) → n < length cs → Counts (cell_at cs n).sort (length (inner_names xs (At n)))

counts_more : (s : Sort) (n : ℕ) → Counts s n → Counts (more_in s) (n + 1)
counts_more (Put Nothing) n c = tt
counts_more (Put (Logic b)) n c = tt
counts_more (Put (Char x)) n c = tt
counts_more (Put (Integer z)) n c = tt
counts_more (Put (Float f)) n c = tt
counts_more (Put (Text k h p)) n c = tt
counts_more (Open h x) n c = ap (λ k. k + 1) c
counts_more (Share s t) n c = tt

counts_new : (p : ℕ) (b : Begun) (n : ℕ) → n ≡ 0 → Counts (sort_of p b) n
counts_new p (put none) n e = tt
counts_new p (put (logic b)) n e = tt
counts_new p (put (char c)) n e = tt
counts_new p (put (integer z)) n e = tt
counts_new p (put (float f)) n e = tt
counts_new p (put (text k h ps)) n e = tt
counts_new p (open' h) n e = sym e
counts_new p (share s t) n e = tt

other_adjust : (cs : List Cell) (i n : ℕ) (f : Cell → Cell) → (n ≡ i → ⊥) → cell_at (adjust cs i f) n ≡ cell_at cs n
other_adjust [] i n f h = refl
other_adjust (c ∷ cs) zero zero f h = absurd (h refl)
other_adjust (c ∷ cs) zero (suc n) f h = refl
other_adjust (c ∷ cs) (suc i) zero f h = refl
other_adjust (c ∷ cs) (suc i) (suc n) f h = other_adjust cs i n f (λ e. h (ap suc e))

-- ---- a value begins

inner_more : (x : Entry) (xs : List Entry) (h : Node) → same_holder x.holder h ≡ true → length (inner_names (x ∷ xs) h) ≡ length (inner_names xs h) + 1
unfolding inner_names
inner_more x xs h e = rw e (length-append (inner_names xs h) (x.label.name ∷ []))

inner_same : (x : Entry) (xs : List Entry) (h : Node) → same_holder x.holder h ≡ false → length (inner_names (x ∷ xs) h) ≡ length (inner_names xs h)
unfolding inner_names
inner_same x xs h e = rw e (ap length (append-nil (inner_names xs h)))

-- no value is held by one that is still to come
open_below : (e : Steps) (n : ℕ) → length (values e) ≤ n → same_holder (innermost (opened e)) (At n) ≡ false
open_below e n l = go (opened e) (linked e) where
  go : (os : List Opened) → Linked (values e) os → same_holder (innermost os) (At n) ≡ false
  go [] k = refl
  go (o ∷ os) k = ne_eqb o.number n (λ q. omega (arith, k.0))

none_later : (e : Steps) (n : ℕ) → length (values e) ≤ n → length (inner_names (values e) (At n)) ≡ 0
unfolding inner_names
none_later [] n l = refl
none_later (begin t b ∷ e) n l = inner_same (record { label = t; begun = b; holder = innermost (opened e) }) (values e) (At n) (open_below e n (omega arith)) ∙ none_later e n (omega arith)
none_later (close ∷ e) n l = none_later e n l

raised : (cs : List Cell) (xs : List Entry) (x : Entry) (o : Node) → x.holder ≡ o → AllCount cs xs → (n : ℕ) → n < length cs → Counts (cell_at (adjust_at o more cs) n).sort (length (inner_names (x ∷ xs) (At n)))
raised cs xs x Root e c n l = subst (Counts (cell_at cs n).sort) (sym (inner_same x xs (At n) (ap (λ h. same_holder h (At n)) e))) (c n l)
raised cs xs x (At i) e c n l =
    ⊎_elim
    (λ q.
    let t : same_holder x.holder (At n) ≡ true = ap (λ h. same_holder h (At n)) e ∙ eq-eqb i n (sym q) in
    let a : cell_at (adjust cs i more) n ≡ more (cell_at cs n) = subst (λ k. cell_at (adjust cs k more) n ≡ more (cell_at cs n)) q (at_adjust cs n more l) in
    subst (λ d. Counts d.sort (length (inner_names (x ∷ xs) (At n)))) (sym a) (subst (Counts (more_in (cell_at cs n).sort)) (sym (inner_more x xs (At n) t)) (counts_more (cell_at cs n).sort _ (c n l))))
    (λ q.
    let t : same_holder x.holder (At n) ≡ false = ap (λ h. same_holder h (At n)) e ∙ ne_eqb i n (λ z. q (sym z)) in
    subst (λ d. Counts d.sort (length (inner_names (x ∷ xs) (At n)))) (sym (other_adjust cs i n more q)) (subst (Counts (cell_at cs n).sort) (sym (inner_same x xs (At n) t)) (c n l)))
    (cases_eq n i)

pushed : (cs : List Cell) (c : Cell) (xs : List Entry) → ((n : ℕ) → n < length cs → Counts (cell_at cs n).sort (length (inner_names xs (At n)))) → Counts c.sort (length (inner_names xs (At (length cs)))) → AllCount (cs ++ (c ∷ [])) xs
pushed cs c xs h k n l =
    ⊎_elim
    (λ q. subst (λ d. Counts d.sort (length (inner_names xs (At n)))) (sym (get_or_at cs c [] blank n (sym q))) (subst (λ i. Counts c.sort (length (inner_names xs (At i)))) (sym q) k))
    (λ q.
    let m : n < length cs = omega (arith, length-append cs (c ∷ [])) in
    subst (λ d. Counts d.sort (length (inner_names xs (At n)))) (sym (get_or_append_left cs (c ∷ []) blank n m)) (h n m))
    (cases_eq n (length cs))

-- ---- lawful steps

pub counts_build : (M : Memory) (e : Steps) → Lawful M e → AllCount (build e).cells (values e)
counts_build M [] l = λ n h. absurd (omega arith)
counts_build M (begin t b ∷ e) l =
    let a = agrees_build M e l.0 in
    let m = build e in
    let x : Entry = record { label = t; begun = b; holder = innermost (opened e) } in
    let k : length (adjust_at m.innermost more m.cells) ≡ length (values e) = length_adjust_at m.innermost more m.cells ∙ value_count e m a in
    pushed (adjust_at m.innermost more m.cells) (new_cell t b m) (x ∷ values e)
    (λ n h. raised m.cells (values e) x m.innermost (sym a.inner_is) (counts_build M e l.0) n (omega (arith, length_adjust_at m.innermost more m.cells)))
    (counts_new (length m.points) b _ (ap (λ i. length (inner_names (x ∷ values e) (At i))) k ∙ inner_same x (values e) (At (length (values e))) (open_below e (length (values e)) (omega arith)) ∙ none_later e (length (values e)) (omega arith)))
counts_build M (close ∷ e) l =
    let m = build e in
    λ n h. subst (λ s. Counts s (length (inner_names (values e) (At n)))) (sym (shut_sort m.cells (length m.cells - 1) n)) (counts_build M e l.0 n (omega (arith, length_adjust m.cells (length m.cells - 1) shut)))
  where
    shut_sort : (cs : List Cell) (i n : ℕ) → (cell_at (adjust cs i shut) n).sort ≡ (cell_at cs n).sort
    shut_sort [] i n = refl
    shut_sort (c ∷ cs) zero zero = refl
    shut_sort (c ∷ cs) zero (suc n) = refl
    shut_sort (c ∷ cs) (suc i) zero = refl
    shut_sort (c ∷ cs) (suc i) (suc n) = shut_sort cs i n

-- ---- a store

opened_count : (p : List ℕ) (s : Sort) (h : Holder) (n : ℕ) → Some (begun_of p s) ≡ Some (open' h) → Counts s n → count_in s ≡ n
opened_count p (Put Nothing) h n e c = absurd cc
opened_count p (Put (Logic b)) h n e c = absurd cc
opened_count p (Put (Char x)) h n e c = absurd cc
opened_count p (Put (Integer x)) h n e c = absurd cc
opened_count p (Put (Float f)) h n e c = absurd cc
opened_count p (Put (Text k x t)) h n e c = absurd cc
opened_count p (Open x k) h n e c = c
opened_count p (Share s t) h n e c = absurd cc

pub counts : (s : Store) (i : ℕ) (h : Holder) → i < length (items s.cells) → begun_at (values (standing s)) i ≡ Some (open' h) → count_in (cell_at (items s.cells) i).sort ≡ length (inner_names (values (standing s)) (At i))
counts s i h l e =
    let b : in_use s ≡ build (standing s) = s.stands.built in
    let c : AllCount (items s.cells) (values (standing s)) = subst (λ m. AllCount m.cells (values (standing s))) (sym b) (counts_build (memory_lent s) (standing s) s.stands.lawful) in
    opened_count (items s.codepoints) (cell_at (items s.cells) i).sort h _ (sym (begun_entry (values (standing s)) i ∙ ap begun_in (read_at s i l)) ∙ e) (c i l)
