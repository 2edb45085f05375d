-- The whole file.
use Rattle.std.proofs.Common.{◌≡◌, ℕ, zero, suc, ◌+◌, ◌-◌, ◌*◌, ◌<◌, ◌≤◌, min, Bool, true, false, cond, not, ◌&&◌, ltb, leb, ◌⊎◌, List, [], ◌∷◌, ◌++◌, length, take, drop, Some, None, Option, sym, refl, ap, ◌∙◌, subst, inl, inr, append_assoc, arith, length-append}
use Rattle.std.proofs.lemmas.List.{take_at, drop_at}
use Rattle.std.proofs.lemmas.Bool.{lt-ltb, lt-leb, le-leb, and_from, and_left, and_right, cases_lt}
use Rattle.steps.specs.declared.parts.Node.TheVariants.{Root}
use Rattle.refusal.specs.declared.Reason.{Reason}
use Rattle.refusal.specs.declared.Reason.TheVariants.{StillOpen, DoesNotFit}
use Rattle.steps.specs.Law.{unless}
use Rattle.steps.specs.Steps.{Name, Steps}
use Rattle.steps.specs.Outline.{values, opened, inner_names}
use Rattle.redbin.specs.Bytes.{words}
use Rattle.redbin.specs.Layout.{letters, version, largest_file}
use Rattle.redbin.specs.Canonical.{symbols, strings, offsets, table, flags_for, payload, canonical}
use Rattle.redbin.proofs.Fields.{length_fields}
use Rattle.redbin.proofs.Table.{offsets_length}
use Rattle.save.specs.Sinks.{Output, full, extend, Gained}
use Rattle.save.specs.Symbols.{Clean, Ready}
use Rattle.save.specs.Sizes.{Counted, Exact, file_size}
use Rattle.save.specs.Saves.{all_closed, save_refusal, with_file}
use Rattle.save.proofs.Filed.{extend_fits, fits_memory, memory_length, home_extend}
use Rattle.save.proofs.Outputs.{gained_then, size_extend}

-- the strings end the table
strings_none : [] ≡ strings []
unfolding strings
strings_none = refl

table_ends : (ns : List Name) → (before : List ℕ) × (table ns ≡ before ++ strings ns)
table_ends [] = ([], strings_none)
table_ends (n ∷ ns) = (words (length (n ∷ ns) ∷ length (strings (n ∷ ns)) ∷ offsets 0 (n ∷ ns)), refl)

part_is : (xs ys zs : List ℕ) (start size : ℕ) → start ≡ length xs → size ≡ length ys → take size (drop start ((xs ++ ys) ++ zs)) ≡ ys
part_is xs ys zs start size e d = ap (take size) (ap (drop start) (append_assoc xs ys zs) ∙ drop_at xs (ys ++ zs) start (sym e)) ∙ take_at ys zs size (sym d)

-- once the table is written, its strings can be looked up
pub ready_table : (o : Output) (xs : List ℕ) (ns : List Name) (start end : ℕ) → Clean ns → o.size ≡ 0 → length (xs ++ table ns) ≤ full → length (xs ++ table ns) ≤ length o.memory
    → end ≡ length (xs ++ table ns) → start ≡ end - length (strings ns) → Ready (extend o (xs ++ table ns)) start end ns
ready_table o xs ns start end c z l m e s =
    let t = table_ends ns in
    let a : xs ++ table ns ≡ (xs ++ t.0) ++ strings ns = ap (λ ys. xs ++ ys) t.1 ∙ sym (append_assoc xs t.0 (strings ns)) in
    let n : length (xs ++ table ns) ≡ length (xs ++ t.0) + length (strings ns) = ap length a ∙ length-append (xs ++ t.0) (strings ns) in
    let f = extend_fits o (xs ++ table ns) (omega arith) (omega arith) in
    let k : (extend o (xs ++ table ns)).memory ≡ ((xs ++ t.0) ++ strings ns) ++ drop (length (xs ++ table ns)) o.memory = fits_memory o (xs ++ table ns) z l m ∙ ap (λ ys. ys ++ drop (length (xs ++ table ns)) o.memory) a in
    inr record {
      clean = c;
      ordered = omega arith;
      inside = omega (arith, memory_length o (xs ++ table ns));
      low = omega arith;
      behind = omega (arith, ap (λ p. p.size) f);
      stands = ap (λ ys. take (end - start) (drop start ys)) k ∙ part_is (xs ++ t.0) (strings ns) _ start (end - start) (omega arith) (omega arith);
    }

-- ---- the parts of the canonical form

parts : (L W T P : List ℕ) (v f : ℕ) → ((L ++ (v ∷ f ∷ W)) ++ T) ++ P ≡ L ++ (v ∷ f ∷ (W ++ (T ++ P)))
parts L W T P v f = simp append_assoc

flags_are : (ns : List Name) (flag count : ℕ) → count ≡ length ns → flag ≡ cond (ltb 0 count) 4 0 → flag ≡ flags_for ns
flags_are [] flag count e d = d ∙ ap (λ k. cond (ltb 0 k) 4 0) e
flags_are (n ∷ ns) flag count e d = let h : ltb 0 count ≡ true = lt-ltb 0 count (omega arith) in d ∙ ap (λ b. cond b 4 0) h

abbrev pub first_part : ℕ → ℕ → ℕ → List ℕ
first_part flag roots size = letters ++ (version ∷ flag ∷ words (roots ∷ size ∷ []))

pub canonical_is : (e : Steps) (flag roots size count : ℕ) → count ≡ length (symbols (values e)) → flag ≡ cond (ltb 0 count) 4 0 → roots ≡ length (inner_names (values e) Root) → size ≡ length (payload (values e) e)
    → (first_part flag roots size ++ table (symbols (values e))) ++ payload (values e) e ≡ canonical e
unfolding canonical
canonical_is e flag roots size count c f r s =
    let T = table (symbols (values e)) in
    let P = payload (values e) e in
    parts letters (words (roots ∷ size ∷ [])) T P version flag
    ∙ ap (λ x. letters ++ (version ∷ x ∷ (words (roots ∷ size ∷ []) ++ (T ++ P)))) (flags_are (symbols (values e)) flag count c f)
    ∙ ap (λ x. letters ++ (version ∷ flags_for (symbols (values e)) ∷ (words (x ∷ size ∷ []) ++ (T ++ P)))) r
    ∙ ap (λ x. letters ++ (version ∷ flags_for (symbols (values e)) ∷ (words (length (inner_names (values e) Root) ∷ x ∷ []) ++ (T ++ P)))) s

length_table : (ns : List Name) → length (table ns) ≡ cond (ltb 0 (length ns)) (8 + 4 * length ns + length (strings ns)) 0
length_table [] = refl
length_table (n ∷ ns) =
    let all = n ∷ ns in
    let h : ltb 0 (length all) ≡ true = lt-ltb 0 (length all) (omega arith) in
    let m = length_fields 4 (length all ∷ length (strings all) ∷ offsets 0 all) in
    length-append (words (length all ∷ length (strings all) ∷ offsets 0 all)) (strings all) ∙ omega (arith, m, offsets_length 0 all) ∙ ap (λ b. cond b (8 + 4 * length all + length (strings all)) 0) (sym h)

pub canonical_length : (e : Steps) → length (canonical e) ≡ file_size (length (symbols (values e))) (length (strings (symbols (values e)))) (length (payload (values e) e))
unfolding canonical
canonical_length e =
    let T = table (symbols (values e)) in
    let P = payload (values e) e in
    let W = words (length (inner_names (values e) Root) ∷ length P ∷ []) in
    omega (arith, length-append letters (version ∷ flags_for (symbols (values e)) ∷ (W ++ (T ++ P))), length-append W (T ++ P), length-append T P, length_fields 4 (length (inner_names (values e) Root) ∷ length P ∷ []), length_table (symbols (values e)))

-- ---- what is left to show of a file that fits

module _ (e : Steps) (flag roots size count text : ℕ) (x : Exact e count text size) (f : flag ≡ cond (ltb 0 count) 4 0) (r : roots ≡ length (inner_names (values e) Root)) where
  whole : (first_part flag roots size ++ table (symbols (values e))) ++ payload (values e) e ≡ canonical e
  whole = canonical_is e flag roots size count x.count f r x.payload

  pub before_payload : length (first_part flag roots size ++ table (symbols (values e))) ≤ length (canonical e)
  before_payload = omega (arith, ap length whole, length-append (first_part flag roots size ++ table (symbols (values e))) (payload (values e) e))

  pub text_low : text ≤ length (first_part flag roots size ++ table (symbols (values e)))
  text_low =
      let t = table_ends (symbols (values e)) in
      omega (arith, x.strings, length-append (first_part flag roots size) (table (symbols (values e))), ap length t.1, length-append t.0 (strings (symbols (values e))))

  module _ {S : Type 0} (g : S → Output) (s t u : S) (z : (g s).size ≡ 0) (low : length (canonical e) ≤ largest_file) (fits : length (canonical e) ≤ length (g s).memory)
      (h : Gained g s (first_part flag roots size) t) (k : Gained g t (table (symbols (values e))) u) where
    started : Gained g s (first_part flag roots size ++ table (symbols (values e))) u
    started = gained_then g s t u (first_part flag roots size) (table (symbols (values e))) h k

    pub end_is : (end : ℕ) → end ≡ (g u).size → end ≡ length (first_part flag roots size ++ table (symbols (values e)))
    end_is end d = d ∙ ap (λ o. o.size) started ∙ size_extend (g s) _ (omega arith) ∙ omega (arith, before_payload)

    pub payload_ready : (end start : ℕ) → end ≡ (g u).size → start ≡ end - text → Clean (symbols (values e)) → Ready (g u) start end (symbols (values e))
    payload_ready end start d a c =
        subst (λ o. Ready o start end (symbols (values e))) (sym started)
        (ready_table (g s) (first_part flag roots size) (symbols (values e)) start end c z (omega (arith, before_payload)) (omega (arith, before_payload)) (end_is end d) (a ∙ ap (λ n. end - n) x.strings))

    pub file_written : (v : S) → Gained g u (payload (values e) e) v → Gained g s (canonical e) v
    file_written v p = subst (λ xs. Gained g s xs v) whole (gained_then g s u v _ (payload (values e) e) started p)

pub text_records_low : (e : Steps) (count text size : ℕ) → Exact e count text size → length (canonical e) ≤ largest_file → (text ≤ largest_file) × (size ≤ largest_file)
text_records_low e count text size x l =
    let flag : ℕ = cond (ltb 0 count) 4 0 in
    let roots = length (inner_names (values e) Root) in
    let w = canonical_is e flag roots size count x.count refl refl x.payload in (
      omega (arith, text_low e flag roots size count text x refl refl, before_payload e flag roots size count text x refl refl),
      omega (arith, x.payload, ap length w, length-append (first_part flag roots size ++ table (symbols (values e))) (payload (values e) e)),
    )

pub written_file : (o p : Output) (e : Steps) → o.size ≡ 0 → length (canonical e) ≤ largest_file → length (canonical e) ≤ length o.memory → p ≡ extend o (canonical e)
    → (p.home ≡ o.home) × (p.memory ≡ with_file e o.memory)
written_file o p e z l m g = (ap (λ q. q.home) g ∙ home_extend o (canonical e), ap (λ q. q.memory) g ∙ fits_memory o (canonical e) z (omega arith) m)

-- ---- when a save is refused

counted_size : (e : Steps) (count text size n : ℕ) → Counted e count text size → n ≡ file_size count text size → min n full ≡ min (length (canonical e)) full
counted_size e count text size n c d = go count c.count d where
  go : (k : ℕ) → k ≡ length (symbols (values e)) → n ≡ file_size k text size → min n full ≡ min (length (canonical e)) full
  go zero i d = omega (arith, c.strings, c.payload, canonical_length e, ap (λ m. cond (ltb 0 m) (8 + 4 * m + length (strings (symbols (values e)))) 0) (sym i))
  go (suc k) i d =
      let h : ltb 0 (suc k) ≡ true = lt-ltb 0 (suc k) (omega arith) in
      omega (arith, c.strings, c.payload, canonical_length e, d, ap (λ m. cond (ltb 0 m) (8 + 4 * m + length (strings (symbols (values e)))) 0) (sym i), ap (λ b. cond b (8 + 4 * suc k + text) 0) h, ap (λ b. cond b (8 + 4 * suc k + length (strings (symbols (values e)))) 0) h)

-- a size that a file may have was counted to its end
pub exact_size : (e : Steps) (count text size n : ℕ) → Counted e count text size → n ≡ file_size count text size → n ≤ largest_file → Exact e count text size × (n ≡ length (canonical e))
exact_size e count text size n c d l =
    (record { count = c.count; strings = go count c.count d; payload = omega (arith, c.payload, d, l) }, omega (arith, counted_size e count text size n c d))
  where
    none : (ns : List Name) → 0 ≡ length ns → length (strings ns) ≡ 0
    none [] i = ap length (sym strings_none)
    none (m ∷ ns) i = absurd (omega arith)

    go : (k : ℕ) → k ≡ length (symbols (values e)) → n ≡ file_size k text size → text ≡ length (strings (symbols (values e)))
    go zero i d = omega (arith, c.strings, none (symbols (values e)) i)
    go (suc k) i d =
        let h : ltb 0 (suc k) ≡ true = lt-ltb 0 (suc k) (omega arith) in
        omega (arith, c.strings, d, l, ap (λ b. cond b (8 + 4 * suc k + text) 0) h)

refusal_is : (a b c : Bool) (r : Option Reason) → a ≡ true → unless (b && c) DoesNotFit None ≡ r → unless a StillOpen (unless (b && c) DoesNotFit None) ≡ r
refusal_is a b c r e d = ap (λ x. unless x StillOpen (unless (b && c) DoesNotFit None)) e ∙ d

closed : (e : Steps) → false ≡ ltb 0 (length (opened e)) → all_closed e ≡ true
closed e h = ap not (sym h)

module _ (e : Steps) (out : List ℕ) (count text size n : ℕ) (c : Counted e count text size) (d : n ≡ file_size count text size) (h : false ≡ ltb 0 (length (opened e))) where
  pub refused_long : (length out < n) ⊎ ((n ≤ length out) × (largest_file < n)) → save_refusal e out ≡ Some DoesNotFit
  refused_long w = refusal_is (all_closed e) (leb (length (canonical e)) (length out)) (leb (length (canonical e)) largest_file) _ (closed e h) (go (cases_lt largest_file (length (canonical e)))) where
    go : (largest_file < length (canonical e)) ⊎ (length (canonical e) ≤ largest_file) → unless (leb (length (canonical e)) (length out) && leb (length (canonical e)) largest_file) DoesNotFit None ≡ Some DoesNotFit
    go (inl m) = let f = and_right (leb (length (canonical e)) (length out)) _ (lt-leb (length (canonical e)) largest_file m) in ap (λ b. unless b DoesNotFit None) f
    go (inr m) =
        let l : length out < length (canonical e) = omega (arith, counted_size e count text size n c d, w) in
        let f = and_left _ (leb (length (canonical e)) largest_file) (lt-leb (length (canonical e)) (length out) l) in
        ap (λ b. unless b DoesNotFit None) f

  pub accepted_fits : n ≤ length out → n ≤ largest_file → save_refusal e out ≡ None
  accepted_fits l m =
      let x = (exact_size e count text size n c d m).1 in
      let f = and_from (leb (length (canonical e)) (length out)) (leb (length (canonical e)) largest_file) (le-leb _ _ (omega arith)) (le-leb _ _ (omega arith)) in
      refusal_is (all_closed e) (leb (length (canonical e)) (length out)) (leb (length (canonical e)) largest_file) None (closed e h) (ap (λ b. unless b DoesNotFit None) f)
