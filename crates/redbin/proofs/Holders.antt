-- The record of a OfList or OfObject, and its values behind it, are read back.
use Rattle.std.proofs.Common.{◌≡◌, ℕ, suc, ◌%◌, ◌^◌, ◌<◌, ◌≤◌, Bool, true, false, not, ◌||◌, eqb, ltb, List, [], ◌∷◌, ◌++◌, map, length, replicate, refl, arith, lit<}
use lib.ListN.{length-map}
use Rattle.std.proofs.lemmas.Bool.{ltb-true, and_parts}
use Rattle.steps.specs.Law.{field_end, word_end, Memory, has_room, holder_ok}
use Rattle.steps.specs.Outline.{Entry, values, inner_names}
use Rattle.steps.specs.Steps.{Steps, Tag, Name, begin, close, open'}
use Rattle.steps.specs.declared.parts.Holder.TheVariants.{Object as OfObject, List as OfList}
use Rattle.steps.specs.declared.parts.Holder.{Holder}
use Rattle.steps.specs.declared.parts.ListKind.{ListKind}
use Rattle.steps.specs.declared.parts.Node.TheVariants.{At}
use Rattle.redbin.proofs.Drafted.{InDraft, in_draft}
use Rattle.redbin.proofs.Fields.{rd, then, refuse_passes, field_reads, field_last, run_reads}
use Rattle.redbin.proofs.Headings.{heading_reads}
use Rattle.redbin.proofs.Puts.{room_reads, below_more}
use Rattle.redbin.proofs.Symbols.{Among, named_by_indexes, indexes_below}
use Rattle.redbin.specs.Bytes.{bit, words}
use Rattle.redbin.specs.Canonical.{index_of, symbols, record_of}
use Rattle.redbin.specs.Layout.{context_type, context_header}
use Rattle.redbin.specs.Reading.{bare, in_memory, Reads, got, here, push, run, each, hold, add_list, add_context, add_object, content, value}
use Rattle.redbin.specs.declared.form.Form.TheVariants.{List as is_list, Object as is_object}
use Rattle.refusal.specs.declared.Part.TheVariants.{Record}
use Rattle.refusal.specs.declared.Reason.TheVariants.{BadIndex, Large}

hold_reads : (m : Memory) (one : Name → Reads (Unit {0})) (l : Tag) (h : Holder) (ns : List Name) (bytes more : List ℕ) (e e' : Steps)
    → each one ns (rd bytes (begin l (open' h) ∷ e)) ≡ got tt (rd more e') → hold (in_memory m) one l h ns (rd bytes e) ≡ got tt (rd more (close ∷ e'))
unfolding hold push
hold_reads m one l h ns bytes more e e' inside = then _ refl (then _ inside refl)

pub list_reads : (c : InDraft) (d : ℕ) (all : List Entry) (place : ℕ) (l : Tag) (k : ListKind) (h : ℕ) (bytes more : List ℕ) (e e' : Steps)
    → holder_ok (OfList k h) ≡ true → has_room c.memory e (bare l.name) ≡ true → length (inner_names all (At (length (values e)))) < field_end
    → each (value (in_draft c) d) (replicate (length (inner_names all (At (length (values e))))) []) (rd bytes (begin l (open' (OfList k h)) ∷ e)) ≡ got tt (rd more e')
    → value (in_draft c) (suc d) l.name (rd (record_of all (values e) place l (open' (OfList k h)) ++ bytes) e) ≡ got tt (rd more (close ∷ e'))
unfolding value content add_list record_of
list_reads c d all place l k h bytes more e e' ok r s inside =
    let n = length (inner_names all (At (length (values e)))) in
    let q = ltb-true h field_end ok in
    then _ (heading_reads c (is_list k) l.new_line (h ∷ n ∷ []) bytes e)
    (then _ (field_reads c.size Record 4 field_end Large h (n ∷ []) bytes e (omega arith) q)
    (then _ (field_last c.size Record 4 field_end Large n bytes e (omega arith) s)
    (then _ (room_reads c _ (bare l.name) bytes e r)
    (hold_reads c.memory _ l (OfList k h) _ bytes more e e' inside))))

context_typed : (s : Bool) → not (eqb (context_header s % bit 8) context_type) ≡ false
context_typed true = refl
context_typed false = refl

context_bits : (s : Bool) → not (eqb (context_header s) (context_header false) || eqb (context_header s) (context_header true)) ≡ false
context_bits true = refl
context_bits false = refl

context_self : (s : Bool) → eqb (context_header s) (context_header true) ≡ s
context_self true = refl
context_self false = refl

context_small : (s : Bool) → context_header s < word_end
context_small true = lit< tt
context_small false = lit< tt

-- what stays the same while the records of a document are read
abbrev pub reading : ℕ → Memory → List Entry → ℕ → InDraft
reading size m all payload = record { size = size; memory = m; table = symbols all; payload = payload }

pub object_reads : (size : ℕ) (m : Memory) (pay : ℕ) (d : ℕ) (all : List Entry) (place : ℕ) (l : Tag) (w s : Bool) (k t a : ℕ) (bytes more : List ℕ) (e e' : Steps)
    → holder_ok (OfObject w s k t a) ≡ true → has_room m e (bare l.name) ≡ true → length (inner_names all (At (length (values e)))) < field_end
    → length (symbols all) ≤ word_end → Among (inner_names all (At (length (values e)))) (symbols all)
    → each (value (in_draft (reading size m all pay)) d) (inner_names all (At (length (values e)))) (rd bytes (begin l (open' (OfObject w s k t a)) ∷ e)) ≡ got tt (rd more e')
    → value (in_draft (reading size m all pay)) (suc d) l.name (rd (record_of all (values e) place l (open' (OfObject w s k t a)) ++ bytes) e) ≡ got tt (rd more (close ∷ e'))
unfolding value content add_object add_context record_of here
object_reads size m pay d all place l w s k t a bytes more e e' ok r small few among inside =
    let c = reading size m all pay in
    let names = inner_names all (At (length (values e))) in
    let n = length names in
    let is = map (index_of (symbols all)) names in
    let p = and_parts (ltb k field_end) _ ok in
    let q = and_parts (ltb t word_end) _ p.1 in
    let k_low = ltb-true k field_end p.0 in
    let t_low = ltb-true t word_end q.0 in
    let a_low = ltb-true a field_end q.1 in
    let b = indexes_below (symbols all) names among in
    let run_is : run size Record 4 (length (symbols all)) BadIndex n (rd (words is ++ bytes) e) ≡ got is (rd bytes e) =
    rw (length-map names (index_of (symbols all))) at (run_reads size Record 4 (length (symbols all)) BadIndex is bytes e (below_more _ (256 ^ 4) is few b) b) in
    then _ (heading_reads c (is_object w) l.new_line (k ∷ t ∷ a ∷ context_header s ∷ n ∷ is) bytes e)
    (then _ (field_reads size Record 4 field_end Large k (t ∷ a ∷ context_header s ∷ n ∷ is) bytes e (omega arith) k_low)
    (then _ (field_reads size Record 4 word_end Large t (a ∷ context_header s ∷ n ∷ is) bytes e t_low t_low)
    (then _ (field_reads size Record 4 field_end Large a (context_header s ∷ n ∷ is) bytes e (omega arith) a_low)
    (then _ (room_reads c _ (bare l.name) _ e r)
    (then _ refl
    (then _ (field_reads size Record 4 word_end Large (context_header s) (n ∷ is) bytes e (context_small s) (context_small s))
    (then _ (refuse_passes _ _ _ _ _ (context_typed s))
    (then _ (refuse_passes _ _ _ _ _ (context_bits s))
    (then _ (field_reads size Record 4 field_end Large n is bytes e (omega arith) small)
    (then _ run_is
    (rw (context_self s, named_by_indexes (symbols all) names among) (hold_reads m _ l (OfObject w s k t a) names bytes more e e' inside))))))))))))
