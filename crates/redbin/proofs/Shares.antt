-- The record of a share is read back as that share.
use Rattle.std.proofs.Common.{◌≡◌, ℕ, suc, ◌^◌, ◌<◌, true, List, [], ◌∷◌, ◌++◌, length, refl, arith, lit<}
use Rattle.std.proofs.lemmas.Bool.{ltb-true}
use Rattle.steps.specs.Law.{limit, field_end, word_end, cells, need, Memory, has_room, share_ok, used}
use Rattle.steps.specs.Outline.{Entry, values, suits, share_family, path_to}
use Rattle.steps.specs.Steps.{Begun, none, logic, char, integer, float, text, Steps, Tag, Name, begin, close, put, open', share}
use Rattle.steps.specs.declared.parts.Family.{Family}
use Rattle.steps.specs.declared.parts.Node.{Node}
use Rattle.steps.specs.declared.parts.Share.TheVariants.{Text as ShareText, List as ShareList, Object as ShareObject}
use Rattle.steps.specs.declared.parts.Share.{Share}
use Rattle.redbin.specs.Layout.{reference_header}
use Rattle.redbin.proofs.Drafted.{InDraft, in_draft}
use Rattle.redbin.proofs.Fields.{rd, then, field_reads, run_reads}
use Rattle.redbin.proofs.Headings.{heading_reads}
use Rattle.redbin.proofs.Paths.{follow_path, path_to_below}
use Rattle.redbin.proofs.Puts.{room_reads, room_parts, below_more}
use Rattle.redbin.specs.Bytes.{words}
use Rattle.redbin.specs.Canonical.{reference, record_of}
use Rattle.redbin.specs.Reading.{bare, got, here, push, refuse_when, target, add_share, content, value}
use Rattle.redbin.specs.declared.form.Form.TheVariants.{ShareObject as shares_object, ShareList as shares_list, ShareText as shares_text}
use Rattle.refusal.specs.declared.Part.TheVariants.{Reference, Record}
use Rattle.refusal.specs.declared.Reason.TheVariants.{Large}

one_cell : (n : Name) (b : Begun) → need n b cells ≡ 1
one_cell n (put none) = refl
one_cell n (put (logic x)) = refl
one_cell n (put (char x)) = refl
one_cell n (put (integer x)) = refl
one_cell n (put (float x)) = refl
one_cell n (put (text k h ps)) = refl
one_cell n (open' h) = refl
one_cell n (share s t) = refl

pub count_used : (e : Steps) → length (values e) ≡ used e cells
count_used [] = refl
count_used (begin l b ∷ e) = omega (arith, count_used e, one_cell l.name b)
count_used (close ∷ e) = count_used e

pub count_small : (m : Memory) (e : Steps) (n : Name) (b : Begun) → has_room m e (need n b) ≡ true → length (values e) < limit cells
count_small m e n b h = omega (arith, count_used e, one_cell n b, room_parts m e (need n b) h cells)

target_reads : (c : InDraft) (place : ℕ) (f : Family) (t : Node) (bytes : List ℕ) (e : Steps) → suits (values e) t f ≡ true
    → target (in_draft c) place f (path_to (values e) t) (rd bytes e) ≡ got t (rd bytes e)
unfolding target
target_reads c place f t bytes e h = rw (follow_path e t f h, h)

add_share_reads : (c : InDraft) (start : ℕ) (l : Tag) (s : Share) (t : Node) (more : List ℕ) (e : Steps)
    → suits (values e) t (share_family s) ≡ true → has_room c.memory e (bare l.name) ≡ true
    → add_share (in_draft c) start l s (rd (words (reference (path_to (values e) t)) ++ more) e) ≡ got tt (rd more (begin l (share s t) ∷ e))
unfolding add_share here refuse_when push
add_share_reads c start l s t more e h r =
    let p = path_to (values e) t in
    let b = path_to_below (values e) t in
    let k = count_small c.memory e l.name (share s t) r in
    let n : length p < field_end = omega arith in
    then _ refl
    (then _ (field_reads c.size Reference 4 word_end Large reference_header (length p ∷ p) more e (lit< tt) (lit< tt))
    (then _ refl (then _ refl
    (then _ (field_reads c.size Reference 4 field_end Large (length p) p more e (omega arith) n)
    (then _ (run_reads c.size Reference 4 field_end Large p more e (below_more _ (256 ^ 4) p (omega arith) b.0) (below_more _ field_end p (omega arith) b.0))
    (then _ (target_reads c _ (share_family s) t more e h)
    (then _ (room_reads c start (bare l.name) more e r) refl)))))))

pub share_reads : (c : InDraft) (d : ℕ) (all : List Entry) (place : ℕ) (l : Tag) (s : Share) (t : Node) (more : List ℕ) (e : Steps)
    → share_ok s ≡ true → suits (values e) t (share_family s) ≡ true → has_room c.memory e (bare l.name) ≡ true
    → value (in_draft c) (suc d) l.name (rd (record_of all (values e) place l (share s t) ++ more) e) ≡ got tt (rd more (begin l (share s t) ∷ e))
unfolding value content record_of
share_reads c d all place l (ShareList k n) t more e ok h r =
    let q = ltb-true n field_end ok in
    then _ (heading_reads c (shares_list k) l.new_line (n ∷ reference (path_to (values e) t)) more e)
    (then _ (field_reads c.size Record 4 field_end Large n (reference (path_to (values e) t)) more e (omega arith) q)
    (add_share_reads c _ l (ShareList k n) t more e h r))
share_reads c d all place l (ShareText k n) t more e ok h r =
    let q = ltb-true n field_end ok in
    then _ (heading_reads c (shares_text k) l.new_line (n ∷ reference (path_to (values e) t)) more e)
    (then _ (field_reads c.size Record 4 field_end Large n (reference (path_to (values e) t)) more e (omega arith) q)
    (add_share_reads c _ l (ShareText k n) t more e h r))
share_reads c d all place l (ShareObject w) t more e ok h r =
    then _ (heading_reads c (shares_object w) l.new_line (reference (path_to (values e) t)) more e)
    (add_share_reads c _ l (ShareObject w) t more e h r)
