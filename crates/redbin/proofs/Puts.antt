-- The record of a put value is read back as that put.
use Rattle.std.proofs.Common.{◌≡◌, ℕ, zero, suc, ◌+◌, ◌-◌, ◌*◌, ◌%◌, ◌^◌, ◌<◌, ◌≤◌, Bool, true, false, cond, eqb, ltb, leb, List, [], ◌∷◌, ◌++◌, length, ℤ, pos, negsuc, refl, ap, append_assoc, arith, lit<, lit≤, length-append}
use lib.ListN.{length-replicate}
use Rattle.std.proofs.lemmas.Bool.{and_from, le-leb, le-ltb, eq-eqb, eqb-true, eqb-false, ltb-true, leb-true, and_parts}
use Rattle.steps.specs.Law.{integer_end, field_end, float_end, word_end, Kind, cells, points, names, every_kind, need, Memory, codepoint_end, codepoints_ok, content_ok, has_room, used, usable}
use Rattle.steps.specs.Outline.{Entry}
use Rattle.steps.specs.Steps.{Steps, Tag, Name, Content, none, logic, char, integer, float, text, begin, put}
use Rattle.steps.specs.declared.parts.TextKind.{TextKind}
use Rattle.redbin.proofs.Lists.{all_from_tests, all_weaker, all_replicate}
use Rattle.redbin.proofs.Drafted.{InDraft, in_draft}
use Rattle.redbin.proofs.Fields.{rd, then, field_reads, field_last, below_reads, run_reads, Below, length_fields}
use Rattle.redbin.proofs.Headings.{heading_reads, heading_last, padded_reads}
use Rattle.redbin.specs.Bytes.{bytes_of, fields, words, zeros, fill, all_below}
use Rattle.redbin.specs.declared.width.Width.TheVariants.{One, Two, Four}
use Rattle.redbin.specs.Canonical.{narrowest, unit, bits32, padding, record_of}
use Rattle.redbin.specs.Layout.{one_byte_end, two_bytes_end, text_length_end, width, header}
use Rattle.redbin.specs.Reading.{got, push, run, room, on_boundary, add, add_text, content, value, add_float, signed, is_nonzero}
use Rattle.redbin.specs.declared.form.Form.TheVariants.{Logic as is_logic, Integer as is_integer, Char as is_char, Nothing as is_none, Text as is_text, Float as is_float}
use Rattle.refusal.specs.declared.Part.TheVariants.{Record}
use Rattle.refusal.specs.declared.Part.{Part}
use Rattle.refusal.specs.declared.Reason.TheVariants.{BadContent, Large}
use Rattle.refusal.specs.declared.Reason.{Reason}

pub room_reads : (c : InDraft) (place : ℕ) (n : Memory) (bytes : List ℕ) (e : Steps) → has_room c.memory e n ≡ true
    → room (in_draft c) place n (rd bytes e) ≡ got tt (rd bytes e)
unfolding room
room_reads c place n bytes e h = rw h

pub add_reads : (c : InDraft) (place : ℕ) (l : Tag) (v : Content) (bytes : List ℕ) (e : Steps) → has_room c.memory e (need l.name (put v)) ≡ true
    → add (in_draft c) place l v (rd bytes e) ≡ got tt (rd bytes (begin l (put v) ∷ e))
unfolding push
add_reads c place l v bytes e r = then _ (room_reads c place (need l.name (put v)) bytes e r) refl

pub below_all : (limit : ℕ) (ns : List ℕ) → all_below limit ns ≡ true → Below limit ns
below_all limit ns h = all_from_tests _ _ (λ n l. ltb-true n limit l) ns h

pub below_more : (a b : ℕ) (ns : List ℕ) → a ≤ b → Below a ns → Below b ns
below_more a b ns l h = all_weaker _ _ (λ n p. omega arith) ns h

fields_zeros : (n : ℕ) → fields 1 (zeros n) ≡ zeros n
unfolding fields bytes_of
fields_zeros zero = refl
fields_zeros (suc n) = ap {B = List ℕ} (λ r. 0 ∷ r) (fields_zeros n)

zeros_read : (size : ℕ) (part : Part) (why : Reason) (n : ℕ) (more : List ℕ) (e : Steps)
    → run size part 1 1 why n (rd (zeros n ++ more) e) ≡ got (zeros n) (rd more e)
zeros_read size part why n more e =
    let h = run_reads size part 1 1 why (zeros n) more e (all_replicate _ n 0 (lit< tt)) (all_replicate _ n 0 (lit< tt)) in
    rw (fields_zeros n, length-replicate {A = ℕ} n 0) at h

-- the canonical form's width fits the codepoints
pub unit_fits : (ps : List ℕ) → Below codepoint_end ps → Below (256 ^ unit ps) ps
unfolding narrowest
unit_fits ps h = go (all_below one_byte_end ps) (all_below two_bytes_end ps) refl refl
  where
    go : (a b : Bool) → all_below one_byte_end ps ≡ a → all_below two_bytes_end ps ≡ b → Below (256 ^ width (cond a One (cond b Two Four))) ps
    go true b p q = below_all one_byte_end ps p
    go false true p q = below_all two_bytes_end ps q
    go false false p q = below_more codepoint_end (256 ^ 4) ps (lit≤ tt) h

pub every_all : (f : Kind → Bool) → every_kind f ≡ true → (k : Kind) → f k ≡ true
every_all f h cells = (and_parts (f cells) _ h).0
every_all f h points = (and_parts (f points) _ (and_parts (f cells) _ h).1).0
every_all f h names = (and_parts (f points) _ (and_parts (f cells) _ h).1).1

pub room_parts : (m : Memory) (e : Steps) (n : Memory) → has_room m e n ≡ true → (k : Kind) → used e k + n k ≤ usable m k
room_parts m e n h k = leb-true (used e k + n k) (usable m k) (every_all (λ x. leb (used e x + n x) (usable m x)) h k)

pub room_from : (m : Memory) (e : Steps) (n : Memory) → ((k : Kind) → used e k + n k ≤ usable m k) → has_room m e n ≡ true
room_from m e n h = and_from _ _ (le-leb _ _ (h cells)) (and_from _ _ (le-leb _ _ (h points)) (le-leb _ _ (h names)))

points_small : (m : Memory) (e : Steps) (n : Name) (k : TextKind) (head : ℕ) (ps : List ℕ) → has_room m e (need n (put (text k head ps))) ≡ true → length ps < text_length_end
points_small m e n k head ps h = omega (arith, room_parts m e (need n (put (text k head ps))) h points)

text_reads : (c : InDraft) (start : ℕ) (l : Tag) (k : TextKind) (head : ℕ) (ps : List ℕ) (more : List ℕ) (e : Steps)
    → head < field_end → Below codepoint_end ps → has_room c.memory e (need l.name (put (text k head ps))) ≡ true
    → add_text (in_draft c) start l k (unit ps) (rd (words (head ∷ length ps ∷ []) ++ (fields (unit ps) ps ++ (zeros (fill 4 (unit ps * length ps)) ++ more))) e)
    ≡ got tt (rd more (begin l (put (text k head ps)) ∷ e))
unfolding add_text
text_reads c start l k head ps more e hh hp r =
    let s : length ps < text_length_end = points_small c.memory e l.name k head ps r in
    then _ (field_reads c.size Record 4 field_end Large head (length ps ∷ []) _ e (omega arith) hh)
    (then _ (field_last c.size Record 4 text_length_end Large (length ps) _ e (omega arith) s)
    (then _ (run_reads c.size Record (unit ps) codepoint_end BadContent ps _ e (unit_fits ps hp) hp)
    (then _ (zeros_read c.size Record BadContent (fill 4 (unit ps * length ps)) more e)
    (add_reads c start l (text k head ps) more e r))))

-- a float behind its header
float_reads : (c : InDraft) (start : ℕ) (l : Tag) (x : ℕ) (more : List ℕ) (e : Steps)
    → x < float_end → has_room c.memory e (need l.name (put (float x))) ≡ true → (c.payload - length (bytes_of 8 x ++ more)) % 8 ≡ 0
    → add_float (in_draft c) start l (rd (bytes_of 8 x ++ more) e) ≡ got tt (rd more (begin l (put (float x)) ∷ e))
unfolding add_float on_boundary
float_reads c start l x more e hx r b =
    let t : eqb ((c.payload - length (bytes_of 8 x ++ more)) % 8) 0 ≡ true = eq-eqb _ _ b in
    let b : on_boundary (in_draft c) (rd (bytes_of 8 x ++ more) e) ≡ got tt (rd (bytes_of 8 x ++ more) e) = rw t in
    then _ b (then _ (below_reads c.size Record 8 float_end Large x more e hx hx) (add_reads c start l (float x) more e r))

signed_bits : (z : ℤ) → content_ok (integer z) ≡ true → (bits32 z < word_end) × (signed (bits32 z) ≡ z)
signed_bits (pos n) h =
    let l = ltb-true n integer_end h in
    (omega arith, rw h)
signed_bits (negsuc n) h =
    let l = ltb-true n integer_end h in
    let f : ltb ((word_end - 1) - n) integer_end ≡ false = le-ltb _ _ (omega arith) in
    let g : (word_end - 1) - ((word_end - 1) - n) ≡ n = omega arith in
    (omega arith, rw (f, g))

nonzero_cond : (b : Bool) → is_nonzero (cond b 1 0) ≡ b
nonzero_cond true = refl
nonzero_cond false = refl

cond_below : (b : Bool) → cond b 1 0 < 2
cond_below true = lit< tt
cond_below false = lit< tt

length_word : (n : ℕ) (more : List ℕ) → length (words (n ∷ []) ++ more) ≡ 4 + length more
length_word n more = omega (arith, length-append (words (n ∷ [])) more, length_fields 4 (n ∷ []))

pub put_reads : (c : InDraft) (d : ℕ) (all before : List Entry) (place : ℕ) (l : Tag) (v : Content) (more : List ℕ) (e : Steps)
    → content_ok v ≡ true → has_room c.memory e (need l.name (put v)) ≡ true → place % 4 ≡ 0
    → place + length (record_of all before place l (put v) ++ more) ≡ c.payload
    → value (in_draft c) (suc d) l.name (rd (record_of all before place l (put v) ++ more) e) ≡ got tt (rd more (begin l (put v) ∷ e))
unfolding value content record_of
put_reads c d all before place l none more e ok r a s =
    then _ (heading_last c is_none l.new_line more e) (add_reads c _ l none more e r)
put_reads c d all before place l (logic b) more e ok r a s =
    let q : cond b 1 0 < 256 ^ 4 = omega (arith, cond_below b) in
    then _ (heading_reads c is_logic l.new_line (cond b 1 0 ∷ []) more e)
    (then _ (field_last c.size Record 4 2 BadContent (cond b 1 0) more e q (cond_below b))
    (rw (nonzero_cond b) (add_reads c _ l (logic b) more e r)))
put_reads c d all before place l (char n) more e ok r a s =
    let q = ltb-true n codepoint_end ok in
    then _ (heading_reads c is_char l.new_line (n ∷ []) more e)
    (then _ (field_last c.size Record 4 codepoint_end BadContent n more e (omega arith) q) (add_reads c _ l (char n) more e r))
put_reads c d all before place l (integer z) more e ok r a s =
    let q = signed_bits z ok in
    then _ (heading_reads c is_integer l.new_line (bits32 z ∷ []) more e)
    (then _ (field_last c.size Record 4 word_end Large (bits32 z) more e q.0 q.0)
    (rw q.1 (add_reads c _ l (integer z) more e r)))
put_reads c d all before place l (float x) more e ok r a s =
    go (eqb (place % 8) 0) refl
  where
    W : List ℕ
    W = words (header is_float l.new_line ∷ [])

    h : x < float_end
    h = ltb-true x float_end ok

    s₀ : place + length ((padding place ++ (W ++ bytes_of 8 x)) ++ more) ≡ c.payload
    s₀ = s

    go : (b : Bool) → eqb (place % 8) 0 ≡ b → value (in_draft c) (suc d) l.name (rd ((padding place ++ (W ++ bytes_of 8 x)) ++ more) e) ≡ got tt (rd more (begin l (put (float x)) ∷ e))
    go true p =
        let z : place % 8 ≡ 0 = eqb-true (place % 8) 0 p in
        let s' : place + (4 + (4 + length (bytes_of 8 x ++ more))) ≡ c.payload = rw (p, append_assoc (words (0 ∷ [])) (W ++ bytes_of 8 x) more, append_assoc W (bytes_of 8 x) more, length_word 0 (W ++ (bytes_of 8 x ++ more)), length_word (header is_float l.new_line) (bytes_of 8 x ++ more)) at s₀ in
        rw (p, append_assoc (words (0 ∷ [])) (W ++ bytes_of 8 x) more, append_assoc W (bytes_of 8 x) more)
        (then _ (padded_reads c l.new_line (bytes_of 8 x ++ more) e) (float_reads c _ l x more e h r (omega arith)))
    go false p =
        let z : ¬ (place % 8 ≡ 0) = eqb-false (place % 8) 0 p in
        let s' : place + (4 + length (bytes_of 8 x ++ more)) ≡ c.payload = rw (p, append_assoc W (bytes_of 8 x) more, length_word (header is_float l.new_line) (bytes_of 8 x ++ more)) at s₀ in
        rw (p, append_assoc W (bytes_of 8 x) more)
        (then _ (heading_last c is_float l.new_line (bytes_of 8 x ++ more) e) (float_reads c _ l x more e h r (omega arith)))
put_reads c d all before place l (text k h ps) more e ok r a s =
    let W = words (header (is_text k (narrowest ps)) l.new_line ∷ h ∷ length ps ∷ []) in
    let Z = zeros (fill 4 (unit ps * length ps)) in
    let p = and_parts (ltb h field_end) (codepoints_ok ps) ok in
    let b = below_all codepoint_end ps p.1 in
    rw (append_assoc W (fields (unit ps) ps ++ Z) more, append_assoc (fields (unit ps) ps) Z more)
    (then _ (heading_reads c (is_text k (narrowest ps)) l.new_line (h ∷ length ps ∷ []) _ e)
    (text_reads c _ l k h ps more e (ltb-true h field_end p.0) b r))
