-- The records of whole values are read back as the steps that they came from.
use Rattle.std.proofs.Common.{◌≡◌, ℕ, zero, suc, ◌+◌, ◌*◌, ◌%◌, ◌≤◌, Bool, true, false, cond, eqb, List, [], ◌∷◌, ◌++◌, length, refl, ap, ◌∙◌, append_assoc, arith, length-append}
use lib.ListN.{length-replicate}
use Rattle.std.proofs.lemmas.Bool.{and_parts}
use Rattle.steps.specs.Law.{limit, cells, deepest, word_end, Memory, share_ok}
use Rattle.steps.specs.Outline.{Entry, values, opened, same_holder, inner_names, suits, share_family}
use Rattle.steps.specs.Steps.{Steps, Name, Tag, Content, Begun, none, logic, char, integer, float, text, begin, close, put, open', share}
use Rattle.steps.specs.declared.parts.Holder.TheVariants.{Object as OfObject, List as OfList}
use Rattle.steps.specs.declared.parts.Holder.{Holder}
use Rattle.steps.specs.declared.parts.Node.TheVariants.{At}
use Rattle.steps.specs.declared.parts.Node.{Node}
use Rattle.steps.specs.declared.parts.Share.TheVariants.{Text as ShareText, Object as ShareObject, List as ShareList}
use Rattle.steps.specs.declared.parts.Share.{Share}
use Rattle.redbin.proofs.Drafted.{in_draft}
use Rattle.redbin.proofs.Fields.{rd, then, length_fields, length_bytes}
use Rattle.redbin.proofs.Holders.{reading, list_reads, object_reads}
use Rattle.redbin.proofs.Parts.{PartOf, part_tail, part_start, holder_names, names_outside}
use Rattle.redbin.proofs.Puts.{put_reads}
use Rattle.redbin.proofs.Shares.{share_reads}
use Rattle.redbin.proofs.Symbols.{object_among}
use Rattle.redbin.proofs.Whole.{Whole, nothing, a_put, a_share, a_holder, names, bytes, whole_payload, whole_opened, Allowed, allowed}
use Rattle.redbin.specs.Bytes.{bytes_of, fields, words, zeros, fill}
use Rattle.redbin.specs.Canonical.{padding, unit, symbols, record_of, payload}
use Rattle.redbin.specs.Layout.{header}
use Rattle.redbin.specs.Reading.{Reader, Read, Reads, got, refused, after, each, value}
use Rattle.redbin.specs.declared.form.Form.TheVariants.{Float as is_float}

pub each_append : (one : Name → Reads (Unit {0})) (ns ms : List Name) (r : Reader) → each one (ns ++ ms) r ≡ after (each one ns r) (λ u. each one ms)
unfolding each after
each_append one [] ms r = refl
each_append one (n ∷ ns) ms r = go (λ r'. each_append one ns ms r') (one n r)
  where
    go : ((r' : Reader) → each one (ns ++ ms) r' ≡ after (each one ns r') (λ u. each one ms)) → (x : Read (Unit {0}))
        → after x (λ u. each one (ns ++ ms)) ≡ after (after x (λ u. each one ns)) (λ u. each one ms)
    go ih (got u r') = ih r'
    go ih (refused x) = refl

-- one more value behind those that were read
pub each_more : (one : Name → Reads (Unit {0})) (ns : List Name) (n : Name) (r r' r'' : Reader) → each one ns r ≡ got tt r' → one n r' ≡ got tt r''
    → each one (ns ++ n ∷ []) r ≡ got tt r''
unfolding each
each_more one ns n r r' r'' p q = each_append one ns (n ∷ []) r ∙ then _ p (then _ q refl)

words_aligned : (ns : List ℕ) → length (words ns) % 4 ≡ 0
words_aligned ns = omega (arith, length_fields 4 ns)

record_aligned : (all before : List Entry) (place : ℕ) (l : Tag) (b : Begun) → length (record_of all before place l b) % 4 ≡ 0
unfolding record_of
record_aligned all before place l (put none) = words_aligned _
record_aligned all before place l (put (logic b)) = words_aligned _
record_aligned all before place l (put (char n)) = words_aligned _
record_aligned all before place l (put (integer z)) = words_aligned _
record_aligned all before place l (put (float n)) =
    let W = words (header is_float l.new_line ∷ []) in
    omega (arith, length-append (padding place) (W ++ bytes_of 8 n), length-append W (bytes_of 8 n), length_bytes 8 n, words_aligned (header is_float l.new_line ∷ []), pad (eqb (place % 8) 0))
  where
    pad : (b : Bool) → length (cond b (words (0 ∷ [])) []) % 4 ≡ 0
    pad true = words_aligned (0 ∷ [])
    pad false = refl
record_aligned all before place l (put (text k h ps)) = text_aligned _ ps
  where
    text_aligned : (ns ps : List ℕ) → length (words ns ++ (fields (unit ps) ps ++ zeros (fill 4 (unit ps * length ps)))) % 4 ≡ 0
    text_aligned ns ps =
        let Z = zeros (fill 4 (unit ps * length ps)) in
        omega (arith, length-append (words ns) (fields (unit ps) ps ++ Z), length-append (fields (unit ps) ps) Z, length_fields (unit ps) ps, length-replicate {A = ℕ} (fill 4 (unit ps * length ps)) 0, words_aligned ns)
record_aligned all before place l (open' (OfList k h)) = words_aligned _
record_aligned all before place l (open' (OfObject w s k t a)) = words_aligned _
record_aligned all before place l (share (ShareList k h) t) = words_aligned _
record_aligned all before place l (share (ShareText k h) t) = words_aligned _
record_aligned all before place l (share (ShareObject w) t) = words_aligned _

pub payload_aligned : (all : List Entry) (e : Steps) → length (payload all e) % 4 ≡ 0
payload_aligned all [] = refl
payload_aligned all (begin l b ∷ e) =
    omega (arith, payload_aligned all e, length-append (payload all e) (record_of all (values e) (length (payload all e)) l b), record_aligned all (values e) (length (payload all e)) l b)
payload_aligned all (close ∷ e) = payload_aligned all e

pub inner_names_length : (xs : List Entry) (h : Node) → length (inner_names xs h) ≤ length xs
unfolding inner_names
inner_names_length [] h = omega arith
inner_names_length (x ∷ xs) h =
    let ih = inner_names_length xs h in
    let b = last (same_holder x.holder h) in
    omega (arith, length-append (inner_names xs h) (cond (same_holder x.holder h) (x.label.name ∷ []) []))
  where
    last : (b : Bool) → length (cond b (x.label.name ∷ []) []) ≤ 1
    last true = omega arith
    last false = omega arith

module _ (size : ℕ) (m : Memory) (pay : ℕ) (all : List Entry) (few : length all ≤ limit cells) (few_names : length (symbols all) ≤ word_end) where
  put_step : (d : ℕ) (l : Tag) (v : Content) (e : Steps) (more : List ℕ) → Allowed m e l (put v) → d + length (opened e) ≡ deepest
      → length (payload all e) + length (record_of all (values e) (length (payload all e)) l (put v) ++ more) ≡ pay
      → value (in_draft (reading size m all pay)) d l.name (rd (record_of all (values e) (length (payload all e)) l (put v) ++ more) e) ≡ got tt (rd more (begin l (put v) ∷ e))
  put_step zero l v e more a s q = absurd (omega (arith, a.depth))
  put_step (suc d) l v e more a s q =
      put_reads (reading size m all pay) d all (values e) (length (payload all e)) l v more e a.begun a.room (payload_aligned all e) q

  share_step : (d : ℕ) (l : Tag) (h : Share) (t : Node) (e : Steps) (more : List ℕ) → Allowed m e l (share h t) → d + length (opened e) ≡ deepest
      → value (in_draft (reading size m all pay)) d l.name (rd (record_of all (values e) (length (payload all e)) l (share h t) ++ more) e) ≡ got tt (rd more (begin l (share h t) ∷ e))
  share_step zero l h t e more a s = absurd (omega (arith, a.depth))
  share_step (suc d) l h t e more a s =
      let p = and_parts (share_ok h) (suits (values e) t (share_family h)) a.begun in
      share_reads (reading size m all pay) d all (length (payload all e)) l h t more e p.0 p.1 a.room

  holder_step : (d : ℕ) (l : Tag) (h : Holder) {e e' : Steps} (v : Whole (begin l (open' h) ∷ e) e') (more : List ℕ) → PartOf m all (close ∷ e') → d + length (opened e) ≡ deepest
      → ((d : ℕ) → d + length (opened (begin l (open' h) ∷ e)) ≡ deepest
      → each (value (in_draft (reading size m all pay)) d) (names v) (rd (bytes all v ++ more) (begin l (open' h) ∷ e)) ≡ got tt (rd more e'))
      → value (in_draft (reading size m all pay)) d l.name (rd (record_of all (values e) (length (payload all e)) l (open' h) ++ (bytes all v ++ more)) e) ≡ got tt (rd more (close ∷ e'))
  holder_step zero l h {e} v more p s ih =
      let o = part_start m all v (part_tail m all close _ p) in
      absurd (omega (arith, (allowed m e l (open' h) o.lawful.1).depth))
  holder_step (suc d) l (OfList k h) {e} {e'} v more p s ih =
      let o = part_start m all v (part_tail m all close e' p) in
      let a = allowed m e l (open' (OfList k h)) o.lawful.1 in
      let n = holder_names m all l (OfList k h) v p in
      let f = names_outside m v p.lawful.0 refl in
      list_reads (reading size m all pay) d all (length (payload all e)) l k h (bytes all v ++ more) more e e' a.begun a.room
      (omega (arith, inner_names_length all (At (length (values e))))) (rw (n, ← f) (ih d (omega arith)))
  holder_step (suc d) l (OfObject w t k u b) {e} {e'} v more p s ih =
      let o = part_start m all v (part_tail m all close e' p) in
      let a = allowed m e l (open' (OfObject w t k u b)) o.lawful.1 in
      let n = holder_names m all l (OfObject w t k u b) v p in
      object_reads size m pay d all (length (payload all e)) l w t k u b (bytes all v ++ more) more e e' a.begun a.room
      (omega (arith, inner_names_length all (At (length (values e))))) few_names (object_among all _ (values e) o.within) (rw n (ih d (omega arith)))

  pub reads_whole : {s e : Steps} (w : Whole s e) → PartOf m all e → (d : ℕ) → d + length (opened s) ≡ deepest → (more : List ℕ) → length (payload all e) + length more ≡ pay
      → each (value (in_draft (reading size m all pay)) d) (names w) (rd (bytes all w ++ more) s) ≡ got tt (rd more e)
  unfolding each
  reads_whole nothing p d s more q = refl
  reads_whole {s = z} (a_put {e = e} l v w) p d s more q =
      let R = record_of all (values e) (length (payload all e)) l (put v) in
      let q' : length (payload all e) + length (R ++ more) ≡ pay = omega (arith, length-append (payload all e) R, length-append R more) in
      let s' : d + length (opened e) ≡ deepest = rw (whole_opened w) s in
      rw (append_assoc (bytes all w) R more)
      (each_more _ (names w) l.name _ _ _ (reads_whole w (part_tail m all _ _ p) d s (R ++ more) q')
      (put_step d l v e more (allowed m e l (put v) p.lawful.1) s' q'))
  reads_whole {s = z} (a_share {e = e} l h t w) p d s more q =
      let R = record_of all (values e) (length (payload all e)) l (share h t) in
      let q' : length (payload all e) + length (R ++ more) ≡ pay = omega (arith, length-append (payload all e) R, length-append R more) in
      let s' : d + length (opened e) ≡ deepest = rw (whole_opened w) s in
      rw (append_assoc (bytes all w) R more)
      (each_more _ (names w) l.name _ _ _ (reads_whole w (part_tail m all _ _ p) d s (R ++ more) q')
      (share_step d l h t e more (allowed m e l (share h t) p.lawful.1) s'))
  reads_whole {s = z} (a_holder {e = e} {e' = e'} l h w v) p d s more q =
      let R = record_of all (values e) (length (payload all e)) l (open' h) in
      let B = bytes all v in
      let y = ap length (whole_payload all v) in
      let q' : length (payload all e) + length (R ++ (B ++ more)) ≡ pay =
      omega (arith, y, length-append (payload all e ++ R) B, length-append (payload all e) R, length-append R (B ++ more), length-append B more) in
      let s' : d + length (opened e) ≡ deepest = rw (whole_opened w) s in
      let p₁ = part_tail m all close e' p in
      let p₂ = part_tail m all _ _ (part_start m all v p₁) in
      rw (append_assoc (bytes all w) (R ++ B) more, append_assoc R B more)
      (each_more _ (names w) l.name _ _ _ (reads_whole w p₂ d s (R ++ (B ++ more)) q')
      (holder_step d l h v more p s' (λ k r. reads_whole v p₁ k r more q)))
