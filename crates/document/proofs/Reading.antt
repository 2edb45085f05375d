-- The values of a store, read off its cells.
use Rattle.std.proofs.Common.{◌≡◌, ℕ, ◌+◌, ◌<◌, ◌≤◌, List, length, Some, None, sym, refl, ap, ◌∙◌, subst, arith}
use Rattle.steps.specs.declared.parts.Sort.{Sort}
use Rattle.steps.specs.declared.parts.Content.TheVariants.{Nothing, Logic, Char, Integer, Float, Text}
use Rattle.steps.specs.declared.parts.Sort.TheVariants.{Put, Open, Share}
use Rattle.steps.specs.declared.parts.Cell.{Cell}
use Rattle.document.specs.declared.store.Store.{Store}
use Rattle.steps.specs.Steps.{Begun}
use Rattle.steps.specs.Outline.{values, entry_at, begun_at}
use Rattle.steps.specs.Items.{items}
use Rattle.steps.specs.Build.{entry_of, cell_at, blank, part, begun_of, span_of, begun_with}
use Rattle.document.specs.Standing.{in_use, standing}
use Rattle.steps.proofs.Told.{SortFine, CellFine}
use Rattle.steps.proofs.Good.{each_at}
use Rattle.steps.proofs.Entered.{entry_cell, entry_none, begun_entry, begun_in}
use Rattle.document.proofs.Agreed.{value_count}
use Rattle.document.proofs.Checked.{agrees}

pub count_is : (s : Store) → length (items s.cells) ≡ length (values (standing s))
count_is s = value_count (standing s) (in_use s) (agrees s)

pub read_at : (s : Store) (i : ℕ) → i < length (items s.cells) → entry_at (values (standing s)) i ≡ Some (entry_of (items s.codepoints) (items s.names) (cell_at (items s.cells) i))
read_at s i l =
    ap (λ zs. entry_at zs i) (sym (agrees s).valued) ∙ entry_cell (items s.codepoints) (items s.names) (items s.cells) i l

pub read_none : (s : Store) (i : ℕ) → length (items s.cells) ≤ i → entry_at (values (standing s)) i ≡ None
read_none s i l = entry_none (values (standing s)) i (omega (arith, count_is s))

pub fine_at : (s : Store) (i : ℕ) → i < length (items s.cells) → CellFine (length (items s.codepoints)) (length (items s.names)) (length (items s.cells)) (cell_at (items s.cells) i)
fine_at s i l =
    each_at (CellFine (length (items s.codepoints)) (length (items s.names)) (length (items s.cells))) (items s.cells) i blank l (agrees s).good.each

begun_spanned : (p : List ℕ) (s : Sort) → begun_with s (part (span_of s) p) ≡ begun_of p s
begun_spanned p (Put Nothing) = refl
begun_spanned p (Put (Logic b)) = refl
begun_spanned p (Put (Char n)) = refl
begun_spanned p (Put (Integer z)) = refl
begun_spanned p (Put (Float n)) = refl
begun_spanned p (Put (Text k h s)) = refl
begun_spanned p (Open h n) = refl
begun_spanned p (Share s t) = refl

span_fine : (P K : ℕ) (s : Sort) → SortFine P K s → (span_of s).start + (span_of s).len ≤ P
span_fine P K (Put Nothing) h = omega arith
span_fine P K (Put (Logic b)) h = omega arith
span_fine P K (Put (Char n)) h = omega arith
span_fine P K (Put (Integer z)) h = omega arith
span_fine P K (Put (Float n)) h = omega arith
span_fine P K (Put (Text k x s)) h = h
span_fine P K (Open x n) h = omega arith
span_fine P K (Share x t) h = omega arith

-- the codepoints of a value are in use
pub span_within : (s : Store) (i : ℕ) (c : Cell) → i < length (items s.cells) → c ≡ cell_at (items s.cells) i → (span_of c.sort).start + (span_of c.sort).len ≤ length (items s.codepoints)
span_within s i c l e =
    subst (λ d. (span_of d.sort).start + (span_of d.sort).len ≤ length (items s.codepoints)) (sym e)
    (span_fine (length (items s.codepoints)) (length (items s.cells)) (cell_at (items s.cells) i).sort (fine_at s i l).sorted)

pub begun_none : (s : Store) (i : ℕ) → length (items s.cells) ≤ i → begun_at (values (standing s)) i ≡ None
begun_none s i l = begun_entry (values (standing s)) i ∙ ap begun_in (read_none s i l)

-- the value of a number, by its cell, name and codepoints
pub read_entry : (s : Store) (i : ℕ) (c : Cell) (b : Begun) (name ps : List ℕ) → i < length (items s.cells) → c ≡ cell_at (items s.cells) i → name ≡ part c.name (items s.names) → ps ≡ part (span_of c.sort) (items s.codepoints) → b ≡ begun_with c.sort ps → entry_at (values (standing s)) i ≡ Some (record { label = record { new_line = c.new_line; name = name }; begun = b; holder = c.holder })
read_entry s i c b name ps l e named spanned is =
    read_at s i l ∙ ap (λ d. Some (entry_of (items s.codepoints) (items s.names) d)) (sym e)
    ∙ ap (λ n. Some (record { label = record { new_line = c.new_line; name = n }; begun = begun_of (items s.codepoints) c.sort; holder = c.holder })) (sym named)
    ∙ ap (λ x. Some (record { label = record { new_line = c.new_line; name = name }; begun = x; holder = c.holder })) (sym (begun_spanned (items s.codepoints) c.sort) ∙ ap (begun_with c.sort) (sym spanned) ∙ sym is)
