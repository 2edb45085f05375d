-- The symbol table that was written is read back.
use Rattle.std.proofs.Common.{◌≡◌, ℕ, zero, suc, ◌+◌, ◌^◌, ◌≤◌, Bool, true, false, cond, eqb, ltb, leb, List, [], ◌∷◌, ◌++◌, length, drop, Some, Option, refl, ap, ◌∙◌, append_assoc, append-nil, arith, length-append}
use Rattle.std.proofs.lemmas.List.{take_at, drop_at}
use Rattle.std.proofs.lemmas.Bool.{and_parts}
use Rattle.steps.specs.Law.{field_end, word_end, Memory, Lawful}
use Rattle.steps.specs.Outline.{Entry, values, opened, in_object, inner_names}
use Rattle.steps.specs.Steps.{Steps, Name, close}
use Rattle.steps.specs.Utf8.{lawful_name, no_zero}
use Rattle.steps.specs.declared.parts.Holder.TheVariants.{Object as OfObject, List as OfList}
use Rattle.steps.specs.declared.parts.Node.TheVariants.{At}
use Rattle.std.specs.List.{AllByRecursion as Each}
use Rattle.redbin.proofs.Lists.{all_append}
use Rattle.redbin.specs.Layout.{largest_file}
use Rattle.redbin.proofs.Fields.{rd, then, field_reads, run_reads, enough_reads, Below, length_fields}
use Rattle.redbin.proofs.Parts.{PartOf, part_tail, part_start, names_all, holder_names}
use Rattle.redbin.proofs.Puts.{below_more}
use Rattle.redbin.proofs.Whole.{Whole, nothing, a_put, a_share, a_holder, names}
use Rattle.redbin.specs.Bytes.{words, zeros, fill, same}
use Rattle.redbin.specs.Canonical.{without, once, written_names, symbols, stored, strings, offsets, table, flags_for}
use Rattle.redbin.specs.Reading.{Reader, got, here, skip, run, until_zero, before, if_lawful, name_at, name_or_refuse, names_at, symbol_table, return}
use Rattle.refusal.specs.declared.Part.TheVariants.{Symbols}
use Rattle.refusal.specs.declared.Reason.TheVariants.{Large}

abbrev pub AllLawful : List Name → Type 0
AllLawful ns = Each (λ n. lawful_name n ≡ true) ns

lawful_without : (n : Name) (ms : List Name) → AllLawful ms → AllLawful (without n ms)
unfolding without
lawful_without n [] p = tt
lawful_without n (m ∷ ms) p = go (lawful_without n ms p.1) (same m n)
  where
    go : AllLawful (without n ms) → (b : Bool) → AllLawful (cond b (without n ms) (m ∷ without n ms))
    go ih true = ih
    go ih false = (p.0, ih)

lawful_once : (ns : List Name) → AllLawful ns → AllLawful (once ns)
unfolding once
lawful_once [] p = tt
lawful_once (n ∷ ns) p = (p.0, lawful_without n (once ns) (lawful_once ns p.1))

names_inside : (m : Memory) {s e : Steps} (w : Whole s e) → Lawful m e → in_object (opened s) ≡ true → AllLawful (names w)
names_inside m w t f = names_all m _ w t (λ n h. rw f at h)

written_lawful : (m : Memory) (all : List Entry) {s e : Steps} (w : Whole s e) → PartOf m all e → AllLawful (written_names all (values s)) → AllLawful (written_names all (values e))
unfolding written_names
written_lawful m all nothing p a = a
written_lawful m all (a_put l v w) p a = rw append-nil (written_lawful m all w (part_tail m all _ _ p) a)
written_lawful m all (a_share l h t w) p a = rw append-nil (written_lawful m all w (part_tail m all _ _ p) a)
written_lawful m all (a_holder {e = e} {e' = e'} l (OfList k h) w v) p a =
    let p₁ = part_tail m all close e' p in
    let p₂ = part_tail m all _ _ (part_start m all v p₁) in
    written_lawful m all v p₁ (rw append-nil (written_lawful m all w p₂ a))
written_lawful m all (a_holder {e = e} {e' = e'} l (OfObject o t k u b) w v) p a =
    let p₁ = part_tail m all close e' p in
    let p₂ = part_tail m all _ _ (part_start m all v p₁) in
    let n = holder_names m all l (OfObject o t k u b) v p in
    let i : AllLawful (inner_names all (At (length (values e)))) = rw n (names_inside m v p.lawful.0 refl) in
    written_lawful m all v p₁ (all_append _ (written_names all (values e)) _ (written_lawful m all w p₂ a) i)

-- the symbols of a lawful document are lawful names
pub symbols_lawful : (m : Memory) (e : Steps) → Whole [] e → PartOf m (values e) e → AllLawful (symbols (values e))
unfolding symbols written_names
symbols_lawful m e w p = lawful_once (written_names (values e) (values e)) (written_lawful m (values e) w p tt)

until_zero_name : (n more : List ℕ) → no_zero n ≡ true → until_zero (n ++ 0 ∷ more) ≡ Some n
unfolding until_zero
until_zero_name [] more h = refl
until_zero_name (zero ∷ n) more h = absurd cc
until_zero_name (suc b ∷ n) more h = ap (before (suc b)) (until_zero_name n more (and_parts (ltb 0 (suc b)) (no_zero n) h).1)

name_no_zero : (n : Name) → lawful_name n ≡ true → no_zero n ≡ true
name_no_zero n h =
    (and_parts (no_zero n) _ (and_parts (leb (length n) 255) _ (and_parts (ltb 0 (length n)) _ h).1).1).0

name_at_reads : (pre : List ℕ) (n : Name) (more : List ℕ) → lawful_name n ≡ true → name_at (pre ++ (stored n ++ more)) (length pre) ≡ Some n
name_at_reads pre n more h =
    let Z = zeros (fill 8 (length n + 1)) in
    let d : drop (length pre) (pre ++ (stored n ++ more)) ≡ stored n ++ more = drop_at pre (stored n ++ more) (length pre) refl in
    let a : stored n ++ more ≡ n ++ 0 ∷ (Z ++ more) = append_assoc n (0 ∷ Z) more in
    let u : until_zero (n ++ 0 ∷ (Z ++ more)) ≡ Some n = until_zero_name n (Z ++ more) (name_no_zero n h) in
    ap if_lawful (ap until_zero (d ∙ a) ∙ u) ∙ rw h

name_found : (place : ℕ) (o : Option Name) (n : Name) (r : Reader) → o ≡ Some n → name_or_refuse place o r ≡ got n r
unfolding name_or_refuse
name_found place o n r e = rw e

names_at_reads : (pre : List ℕ) (ns : List Name) (place : ℕ) (r : Reader) → AllLawful ns → names_at (pre ++ strings ns) place (offsets (length pre) ns) r ≡ got ns r
unfolding names_at strings offsets
names_at_reads pre [] place r h = refl
names_at_reads pre (n ∷ ns) place r h =
    let p : name_or_refuse place (name_at (pre ++ (stored n ++ strings ns)) (length pre)) r ≡ got n r = name_found place _ n r (name_at_reads pre n (strings ns) h.0) in
    let q : names_at ((pre ++ stored n) ++ strings ns) (place + 4) (offsets (length (pre ++ stored n)) ns) r ≡ got ns r = names_at_reads (pre ++ stored n) ns (place + 4) r h.1 in
    let q' : names_at (pre ++ (stored n ++ strings ns)) (place + 4) (offsets (length pre + length (stored n)) ns) r ≡ got ns r =
    rw (append_assoc pre (stored n) (strings ns), length-append pre (stored n)) at q in
    then _ p (then _ q' refl)

pub offsets_length : (o : ℕ) (ns : List Name) → length (offsets o ns) ≡ length ns
unfolding offsets
offsets_length o [] = refl
offsets_length o (n ∷ ns) = ap suc (offsets_length (o + length (stored n)) ns)

offsets_below : (o : ℕ) (ns : List Name) → Below (o + length (strings ns)) (offsets o ns)
unfolding offsets strings
offsets_below o [] = tt
offsets_below o (n ∷ ns) =
    let a = length-append (stored n) (strings ns) in
    let s = length-append n (0 ∷ zeros (fill 8 (length n + 1))) in
    (omega arith, below_more _ _ (offsets (o + length (stored n)) ns) (omega arith) (offsets_below (o + length (stored n)) ns))

symbol_table_reads : (size : ℕ) (n : Name) (ns : List Name) (more : List ℕ) (e : Steps) → AllLawful (n ∷ ns) → length (table (n ∷ ns)) ≤ largest_file
    → symbol_table size (rd (table (n ∷ ns) ++ more) e) ≡ got (n ∷ ns) (rd more e)
unfolding symbol_table here skip
symbol_table_reads size n ns more e h small =
    let all = n ∷ ns in
    let os = offsets 0 all in
    let S = strings all in
    let W = words (length all ∷ length S ∷ os) in
    let a = length-append W S in
    let b = length_fields 4 (length all ∷ length S ∷ os) in
    let c = offsets_length 0 all in
    let o : Below (256 ^ 4) os = below_more _ (256 ^ 4) os (omega arith) (offsets_below 0 all) in
    let r : run size Symbols 4 word_end Large (length all) (rd (words os ++ (S ++ more)) e) ≡ got os (rd (S ++ more) e) =
    rw c at (run_reads size Symbols 4 word_end Large os (S ++ more) e o o) in
    rw (append_assoc W S more)
    (then _ (field_reads size Symbols 4 field_end Large (length all) (length S ∷ os) (S ++ more) e (omega arith) (omega arith))
    (then _ (field_reads size Symbols 4 field_end Large (length S) os (S ++ more) e (omega arith) (omega arith))
    (then _ refl
    (then _ r
    (then _ (enough_reads size Symbols (length S) (S ++ more) e (omega (arith, length-append S more)))
    (then _ refl
    (rw (take_at S more (length S) refl, drop_at S more (length S) refl) (names_at_reads [] all _ _ h))))))))

pub table_reads : (size : ℕ) (ns : List Name) (more : List ℕ) (e : Steps) → AllLawful ns → length (table ns) ≤ largest_file
    → cond (eqb (flags_for ns) 4) (symbol_table size) (return []) (rd (table ns ++ more) e) ≡ got ns (rd more e)
table_reads size [] more e h small = refl
table_reads size (n ∷ ns) more e h small = symbol_table_reads size n ns more e h small
