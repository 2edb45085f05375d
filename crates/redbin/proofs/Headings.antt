-- A header that was written is read back.
use Rattle.std.proofs.Common.{◌≡◌, ℕ, ◌+◌, ◌-◌, ◌*◌, ◌/◌, ◌%◌, ◌<◌, Bool, true, false, cond, eqb, ltb, List, [], ◌∷◌, ◌++◌, length, take, Ok, refl, ◌∙◌, arith, lit<, length-append}
use Rattle.std.proofs.lemmas.Bool.{le-ltb, lt-ltb, ne_eqb}
use Rattle.steps.specs.Steps.{Steps}
use Rattle.steps.specs.declared.parts.ListKind.TheVariants.{Paren, LitPath, GetPath, Block, Path, SetPath}
use Rattle.steps.specs.declared.parts.ListKind.{ListKind}
use Rattle.steps.specs.declared.parts.TextKind.TheVariants.{File, Url, String}
use Rattle.steps.specs.declared.parts.TextKind.{TextKind}
use Rattle.steps.specs.Law.{word_end}
use Rattle.redbin.proofs.Drafted.{InDraft, in_draft}
use Rattle.redbin.proofs.Fields.{rd, then, refuse_passes, field_reads, length_fields}
use Rattle.redbin.specs.Bytes.{bit, bytes_of, number, fields, words}
use Rattle.redbin.specs.declared.width.Width.{Width}
use Rattle.redbin.specs.declared.width.Width.TheVariants.{One, Two, Four}
use Rattle.redbin.specs.Layout.{text_type, list_type, type_of, unit_bits, bits_of, header}
use Rattle.redbin.specs.Reading.{Reader, got, here, announced, is_nonzero, heading_of, behind_padding, heading}
use Rattle.redbin.specs.declared.form.Form.TheVariants.{Text as is_text, ShareText as shares_text, List as is_list, Char as is_char, ShareObject as shares_object, Nothing as is_none, Float as is_float, Logic as is_logic, ShareList as shares_list, Object as is_object, Integer as is_integer}
use Rattle.redbin.specs.declared.form.Form.{Form}
use Rattle.redbin.specs.Promises.{HeadersReadBack}
use Rattle.refusal.specs.declared.Part.TheVariants.{Record}
use Rattle.refusal.specs.declared.Reason.TheVariants.{Large}

announced_text : (k : TextKind) (u : Width) → announced (text_type k) (unit_bits u) ≡ Ok (is_text k u)
unfolding announced
announced_text String One = refl
announced_text String Two = refl
announced_text String Four = refl
announced_text File One = refl
announced_text File Two = refl
announced_text File Four = refl
announced_text Url One = refl
announced_text Url Two = refl
announced_text Url Four = refl

announced_list : (k : ListKind) → announced (list_type k) 0 ≡ Ok (is_list k)
unfolding announced
announced_list Block = refl
announced_list Paren = refl
announced_list Path = refl
announced_list LitPath = refl
announced_list SetPath = refl
announced_list GetPath = refl

announced_list_share : (k : ListKind) → announced (list_type k) 2048 ≡ Ok (shares_list k)
unfolding announced
announced_list_share Block = refl
announced_list_share Paren = refl
announced_list_share Path = refl
announced_list_share LitPath = refl
announced_list_share SetPath = refl
announced_list_share GetPath = refl

announced_text_share : (k : TextKind) → announced (text_type k) 2049 ≡ Ok (shares_text k)
unfolding announced
announced_text_share String = refl
announced_text_share File = refl
announced_text_share Url = refl

announced_sort : (s : Form) → announced (type_of s) (bits_of s) ≡ Ok s
unfolding announced
announced_sort is_none = refl
announced_sort is_logic = refl
announced_sort is_char = refl
announced_sort is_integer = refl
announced_sort is_float = refl
announced_sort (is_text k u) = announced_text k u
announced_sort (is_list k) = announced_list k
announced_sort (is_object true) = refl
announced_sort (is_object false) = refl
announced_sort (shares_text k) = announced_text_share k
announced_sort (shares_list k) = announced_list_share k
announced_sort (shares_object true) = refl
announced_sort (shares_object false) = refl

text_type_small : (k : TextKind) → (0 < text_type k) × (text_type k < bit 8)
text_type_small String = omega arith
text_type_small File = omega arith
text_type_small Url = omega arith

list_type_small : (k : ListKind) → (0 < list_type k) × (list_type k < bit 8)
list_type_small Block = omega arith
list_type_small Paren = omega arith
list_type_small Path = omega arith
list_type_small LitPath = omega arith
list_type_small SetPath = omega arith
list_type_small GetPath = omega arith

type_small : (s : Form) → (0 < type_of s) × (type_of s < bit 8)
type_small is_none = omega arith
type_small is_logic = omega arith
type_small is_char = omega arith
type_small is_integer = omega arith
type_small is_float = omega arith
type_small (is_text k u) = text_type_small k
type_small (is_list k) = list_type_small k
type_small (is_object w) = omega arith
type_small (shares_text k) = text_type_small k
type_small (shares_list k) = list_type_small k
type_small (shares_object w) = omega arith

bits_small : (s : Form) → bits_of s < bit 23
bits_small is_none = omega arith
bits_small is_logic = omega arith
bits_small is_char = omega arith
bits_small is_integer = omega arith
bits_small is_float = omega arith
bits_small (is_text k One) = omega arith
bits_small (is_text k Two) = omega arith
bits_small (is_text k Four) = omega arith
bits_small (is_list k) = omega arith
bits_small (is_object true) = omega arith
bits_small (is_object false) = omega arith
bits_small (shares_text k) = omega arith
bits_small (shares_list k) = omega arith
bits_small (shares_object true) = omega arith
bits_small (shares_object false) = omega arith

-- a header's parts
pub record Parts (t b : ℕ) (new_line : Bool) (h : ℕ) : Type 0 where
  pub type : h % bit 8 ≡ t
  pub bits : h / bit 8 % bit 23 ≡ b
  pub mark : is_nonzero (h / bit 31) ≡ new_line
  pub fits : h < word_end

pub parts : (t b : ℕ) (nl : Bool) → t < bit 8 → b < bit 23 → Parts t b nl (t + bit 8 * b + cond nl (bit 31) 0)
parts t b true p q = record { type = omega arith; bits = omega arith; mark = lt-ltb _ _ (omega arith); fits = omega arith }
parts t b false p q = record { type = omega arith; bits = omega arith; mark = le-ltb _ _ (omega arith); fits = omega arith }

pub headers_read_back : HeadersReadBack
headers_read_back f nl =
    let p = parts (type_of f) (bits_of f) nl (type_small f).1 (bits_small f) in
    (rw (p.type, p.bits) (announced_sort f), p.mark)

pub heading_of_reads : (c : InDraft) (place : ℕ) (s : Form) (nl : Bool) (r : Reader)
    → heading_of (in_draft c) place (header s nl) r ≡ got (record { place = place; form = s; new_line = nl }) r
unfolding heading_of
heading_of_reads c place s nl r =
    let p = parts (type_of s) (bits_of s) nl (type_small s).1 (bits_small s) in
    let a = announced_sort s in
    rw (p.type, p.bits, p.mark, a) refl

pub heading_reads : (c : InDraft) (s : Form) (nl : Bool) (ns more : List ℕ) (e : Steps)
    → heading (in_draft c) (rd (words (header s nl ∷ ns) ++ more) e)
    ≡ got (record { place = c.size - length (words (header s nl ∷ ns) ++ more); form = s; new_line = nl }) (rd (words ns ++ more) e)
unfolding heading here
heading_reads c s nl ns more e =
    let p = parts (type_of s) (bits_of s) nl (type_small s).1 (bits_small s) in
    let t : eqb (header s nl % bit 8) 0 ≡ false = ne_eqb _ _ (λ z. omega (arith, p.type, (type_small s).0)) in
    then _ refl (then _ (field_reads c.size Record 4 word_end Large (header s nl) ns more e p.fits p.fits) (rw t (heading_of_reads c _ s nl _)))

-- padding and then a float's header
first_byte : (h : ℕ) (more : List ℕ) → number (take 1 (words (h ∷ []) ++ more)) ≡ h % bit 8
unfolding number fields bytes_of
first_byte h more = omega arith

pub padded_reads : (c : InDraft) (nl : Bool) (more : List ℕ) (e : Steps)
    → heading (in_draft c) (rd (words (0 ∷ []) ++ (words (header is_float nl ∷ []) ++ more)) e)
    ≡ got (record { place = c.size - length (words (header is_float nl ∷ []) ++ more); form = is_float; new_line = nl }) (rd more e)
unfolding heading here behind_padding fields
padded_reads c nl more e =
    let p = parts 12 0 nl (omega arith) (omega arith) in
    let bytes = words (header is_float nl ∷ []) ++ more in
    let l : ltb (length bytes) 4 ≡ false = le-ltb _ _ (omega (arith, length-append (words (header is_float nl ∷ [])) more, length_fields 4 (header is_float nl ∷ []))) in
    let t : number (take 1 bytes) ≡ 12 = first_byte (header is_float nl) more ∙ p.type in
    then _ refl (then _ (field_reads c.size Record 4 word_end Large 0 [] bytes e (lit< tt) (lit< tt))
    (then _ refl (then _ (refuse_passes _ _ _ _ _ (rw (l, t))) (then _ (refuse_passes _ _ _ _ _ refl) (then _ refl (then _ (field_reads c.size Record 4 word_end Large (header is_float nl) [] more e p.fits p.fits)
    (heading_of_reads c _ is_float nl _)))))))

pub heading_last : (c : InDraft) (s : Form) (nl : Bool) (more : List ℕ) (e : Steps)
    → heading (in_draft c) (rd (words (header s nl ∷ []) ++ more) e)
    ≡ got (record { place = c.size - length (words (header s nl ∷ []) ++ more); form = s; new_line = nl }) (rd more e)
unfolding fields
heading_last c s nl more e = heading_reads c s nl [] more e
