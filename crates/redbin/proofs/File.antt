-- The canonical form of lawful closed steps is read back as these steps.
use Rattle.std.proofs.Common.{◌≡◌, ℕ, ◌+◌, ◌≤◌, false, not, ◌||◌, eqb, List, [], ◌∷◌, ◌++◌, length, replicate, Ok, sym, refl, ap, ◌∙◌, append-nil, arith, length-append}
use Rattle.std.proofs.lemmas.Bool.{le-ltb, or_from}
use Rattle.steps.specs.Law.{limit, cells, deepest, field_end, Memory, Lawful, Closed}
use Rattle.steps.specs.Outline.{values, inner_names}
use Rattle.steps.specs.Steps.{Steps, Name, begin, close}
use Rattle.steps.specs.declared.parts.Node.TheVariants.{Root}
use Rattle.redbin.proofs.Drafted.{InDraft, in_draft}
use Rattle.redbin.proofs.Fields.{rd, then, refuse_passes, field_reads, field_last, length_fields}
use Rattle.redbin.proofs.Holders.{reading}
use Rattle.redbin.proofs.Parts.{part_whole, nested, closed_whole, names_outside}
use Rattle.redbin.proofs.Records.{reads_whole, inner_names_length}
use Rattle.redbin.proofs.Shares.{count_small}
use Rattle.redbin.proofs.Table.{symbols_lawful, offsets_length, table_reads}
use Rattle.redbin.proofs.Whole.{Whole, names, bytes, whole_payload, whole_names, allowed}
use Rattle.redbin.specs.Bytes.{words}
use Rattle.redbin.specs.Canonical.{symbols, table, flags_for, payload, canonical, offsets, strings}
use Rattle.redbin.specs.Layout.{largest_file, letters}
use Rattle.redbin.specs.Reading.{got, skip, each, value, start_of_file, records, whole_file, answer, read, load}
use Rattle.refusal.specs.declared.Part.TheVariants.{Header}
use Rattle.refusal.specs.declared.Reason.TheVariants.{Large}

lawful_count : (m : Memory) (e : Steps) → Lawful m e → length (values e) ≤ limit cells
lawful_count m [] t = omega arith
lawful_count m (begin l b ∷ e) t =
    let c = count_small m e l.name b (allowed m e l b t.1).room in
    omega arith
lawful_count m (close ∷ e) t = lawful_count m e t.0

flags_fine : (ns : List Name) → not (eqb (flags_for ns) 0 || eqb (flags_for ns) 4) ≡ false
flags_fine [] = refl
flags_fine (n ∷ ns) = refl

table_length : (ns : List Name) → length ns ≤ length (table ns)
table_length [] = omega arith
table_length (n ∷ ns) =
    let all = n ∷ ns in
    let W = words (length all ∷ length (strings all) ∷ offsets 0 all) in
    omega (arith, length-append W (strings all), length_fields 4 (length all ∷ length (strings all) ∷ offsets 0 all), offsets_length 0 all)

roots : {e : Steps} (w : Whole [] e) → inner_names (values e) Root ≡ names w
unfolding inner_names
roots w = whole_names w

pub start_reads : (flag : ℕ) (more : List ℕ) → not (eqb flag 0 || eqb flag 4) ≡ false → 8 ≤ length more → length (letters ++ (2 ∷ flag ∷ more)) ≤ largest_file
    → start_of_file (letters ++ (2 ∷ flag ∷ more)) (rd (letters ++ (2 ∷ flag ∷ more)) []) ≡ got tt (rd more [])
unfolding start_of_file skip
start_reads flag more f l small =
    then _ (refuse_passes _ _ _ _ _ (or_from _ _ (le-ltb (length (letters ++ (2 ∷ flag ∷ more))) 16 (omega arith)) refl))
    (then _ (refuse_passes _ _ _ _ _ refl)
    (then _ (refuse_passes _ _ _ _ _ f) (then _ (refuse_passes _ _ _ _ _ (le-ltb largest_file _ small)) (then _ refl refl))))

records_reads : (c : InDraft) (n : ℕ) (bytes : List ℕ) (e : Steps) → length bytes ≡ c.payload → each (value (in_draft c) deepest) (replicate n []) (rd bytes []) ≡ got tt (rd [] e)
    → records (in_draft c) n (rd bytes []) ≡ got tt (rd [] e)
unfolding records
records_reads c n bytes e s inside =
    then _ refl
    (then _ (refuse_passes _ _ _ _ _ (le-ltb (length bytes) c.payload (omega arith)))
    (then _ (refuse_passes _ _ _ _ _ (le-ltb c.payload (length bytes) (omega arith)))
    (then _ inside (then _ refl (refuse_passes _ _ _ _ _ refl)))))

pub canonical_reads_back : (m : Memory) (e : Steps) → Lawful m e → Closed e → length (canonical e) ≤ largest_file → load m [] (canonical e) ≡ Ok e
unfolding canonical read whole_file
canonical_reads_back m e lawful closed small =
    let all = values e in
    let ns = symbols all in
    let R = payload all e in
    let n = length (inner_names all Root) in
    let T = table ns in
    let W = words (n ∷ length R ∷ []) in
    let size = length (canonical e) in
    let w = closed_whole m (nested m e lawful) closed in
    let p = part_whole m e lawful in
    let few = lawful_count m e lawful in
    let n_low = inner_names_length all Root in
    let s : size ≡ 8 + (8 + (length T + length R)) = omega (arith, length-append W (T ++ R), length_fields 4 (n ∷ length R ∷ []), length-append T R) in
    let t = table_length ns in
    let b : R ≡ bytes all w = whole_payload all w in
    let k : inner_names all Root ≡ names w = roots w in
    let o : names w ≡ replicate (length (names w)) [] = names_outside m w lawful refl in
    let V = value (in_draft (reading size m all (length R))) deepest in
    let q : names w ≡ replicate n [] = o ∙ ap (λ (x : List Name). replicate (length x) []) (sym k) in
    let c : bytes all w ++ [] ≡ R = append-nil (bytes all w) ∙ sym b in
    let r : each V (names w) (rd (bytes all w ++ []) []) ≡ got tt (rd [] e) = reads_whole size m (length R) all few (omega arith) w p deepest refl [] (omega arith) in
    let inside : each V (replicate n []) (rd R []) ≡ got tt (rd [] e) = ap (λ (x : List Name). each V x (rd R [])) (sym q) ∙ ap (λ (x : List ℕ). each V (names w) (rd x [])) (sym c) ∙ r in
    ap answer
    (then _ (start_reads (flags_for ns) (W ++ (T ++ R)) (flags_fine ns) (omega arith) small)
    (then _ (field_reads size Header 4 field_end Large n (length R ∷ []) (T ++ R) [] (omega arith) (omega arith))
    (then _ (field_last size Header 4 field_end Large (length R) (T ++ R) [] (omega arith) (omega arith))
    (then _ (table_reads size ns R [] (symbols_lawful m e w p) (omega arith))
    (records_reads (reading size m all (length R)) n R e refl inside)))))
