-- What a file means: the steps that reading makes of it; or for which reason, in which part and at which byte it is refused.
-- Reading goes from the file's first byte to its last and refuses at the first check that fails. For each field: does it fit its file or payload (4), is it too large (5), is its content bad (10 or 12). For each record: its header's 4, its type (8), its other bits (9), its depth (13), its fields, where its path leads (11), whether there is memory for it (14).
-- The place of a refusal is the first byte of the field; for 7 that of the offset, for 8, 9, 11, 13 and 14 that of the header, for 1 and a file that is too long 0.
-- Its part is the header (the first 16 bytes), the symbols, the reference inside one, else the record; the draft for 15.
use Rattle.std.specs.Prelude.{ℕ, zero, suc, ◌+◌, ◌-◌, ◌*◌, ◌/◌, ◌%◌, Bool, true, false, cond, not, ◌||◌, List, [], ◌∷◌, length, take, drop, replicate, ℤ, pos, negsuc, Some, None, Ok, Err, Option, Result, ◌==◌, nat_lt, slice_index, slice_index_or}
use Rattle.refusal.specs.declared.Reason.{Reason}
use Rattle.refusal.specs.declared.Reason.TheVariants.{NotRedbin, Version, Flags, Short, Large, LeftOver, BadSymbol, BadType, BadBits, BadContent, BadPath, BadIndex, TooDeep, NoMemory, StepsStand}
use Rattle.refusal.specs.declared.Part.{Part}
use Rattle.refusal.specs.declared.Part.TheVariants.{Header, Symbols, Record, Reference, Draft}
use Rattle.refusal.specs.declared.Refusal.{Refusal}
use Rattle.steps.specs.declared.parts.TextKind.{TextKind}
use Rattle.steps.specs.declared.parts.TextKind.TheVariants.{String, File, Url}
use Rattle.steps.specs.declared.parts.ListKind.{ListKind}
use Rattle.steps.specs.declared.parts.ListKind.TheVariants.{Block, Paren, Path, LitPath, SetPath, GetPath}
use Rattle.steps.specs.declared.parts.Node.{Node}
use Rattle.steps.specs.declared.parts.Family.{Family}
use Rattle.steps.specs.declared.parts.Holder.{Holder}
use Rattle.steps.specs.declared.parts.Holder.TheVariants.{List as OfList, Object as OfObject}
use Rattle.steps.specs.declared.parts.Share.{Share}
use Rattle.steps.specs.declared.parts.Share.TheVariants.{List as ShareList, Text as ShareText, Object as ShareObject}
use Rattle.steps.specs.Utf8.{lawful_name}
use Rattle.steps.specs.Steps.{Name, Tag, Content, none, logic, char, integer, float, text, put, open', share, Step, begin, close, Steps}
use Rattle.steps.specs.Outline.{Entry, values, suits, follow, share_family}
use Rattle.steps.specs.Law.{Memory, so_much, has_room, need, codepoint_end, field_end, integer_end, word_end, float_end, deepest}
use Rattle.redbin.specs.declared.form.Form.{Form}
use Rattle.redbin.specs.declared.form.Form.TheVariants.{Nothing as is_none, Logic as is_logic, Char as is_char, Integer as is_integer, Float as is_float, Text as is_text, List as is_list, Object as is_object, ShareText as shares_text, ShareList as shares_list, ShareObject as shares_object}
use Rattle.redbin.specs.declared.width.Width.TheVariants.{One, Two, Four}
use Rattle.redbin.specs.Bytes.{bit, number, fill, same}
use Rattle.redbin.specs.Layout.{letters, version_place, flags_place, payload_size_place, start_size, file_header_size, version, table_flag, largest_file, text_length_end, padding_type, context_type, reference_type, none_type, logic_type, char_type, integer_type, float_type, object_type, text_type, list_type, width, unit_bits, share_mark, owner_mark, context_header, reference_header}

infixl 10 ◌>>=◌
infixl 10 ◌>>◌
-- ---- readers

-- the bytes not yet read and the steps so far; the place of the next byte is the file's length less these bytes
pub record Reader : Type 0 where
  pub rest : List ℕ
  pub steps : Steps

-- what was read, and where that left the reader; or a refusal
pub data Read (A : Type 0) : Type 0 where
  got : A → Reader → Read A
  refused : Refusal → Read A

abbrev pub Reads : Type 0 → Type 0
Reads A = Reader → Read A

-- go on with what was read, unless it was refused
unfoldable pub after : {A B : Type 0} → Read A → (A → Reads B) → Read B
after (got a r) k = k a r
after (refused x) k = refused x

abbrev pub ◌>>=◌ : {A B : Type 0} → Reads A → (A → Reads B) → Reads B
◌>>=◌ m k r = after (m r) k

abbrev pub ◌>>◌ : {A B : Type 0} → Reads A → Reads B → Reads B
◌>>◌ m k r = after (m r) (λ a. k)

abbrev pub return : {A : Type 0} → A → Reads A
return a r = got a r

abbrev pub because : Reason → Part → ℕ → Refusal
because why part place = record { reason = why; part = part; place = place }

abbrev pub refuse : {A : Type 0} → Reason → Part → ℕ → Reads A
refuse why part place r = refused (because why part place)

unfoldable pub refuse_when : Bool → Reason → Part → ℕ → Reads (Unit {0})
refuse_when b why part place r = cond b (refused (because why part place)) (got tt r)

-- the bytes not yet read
abbrev pub ahead : Reads (List ℕ)
ahead r = got r.rest r

-- how many these are
abbrev pub left : Reads ℕ
left r = got (length r.rest) r

-- so many bytes, as they are
unfoldable pub skip : ℕ → Reads (List ℕ)
skip n r = got (take n r.rest) (record { rest = drop n r.rest; steps = r.steps })

-- ---- what reading asks of that into which it reads

-- whether there is room for a value behind the steps so far; to which value a path leads for a share of a family; what a step makes of the steps so far
pub record Uses : Type 0 where
  pub roomy : Steps → Memory → Bool
  pub leads : Steps → Family → List ℕ → Option Node
  pub grown : Step → Steps → Steps

-- a target has to be of the family; a shared value and the root never are
abbrev pub suiting : List Entry → Family → Option Node → Option Node
suiting xs f None = None
suiting xs f (Some t) = cond (suits xs t f) (Some t) None

-- only the values begun so far exist for a path
abbrev pub target_of : Steps → Family → List ℕ → Option Node
target_of e f p = suiting (values e) f (follow (values e) p)

-- a draft with this memory
abbrev pub in_memory : Memory → Uses
in_memory m = record { roomy = has_room m; leads = target_of; grown = λ s e. s ∷ e }

-- no memory, and no end of room
abbrev pub unlimited : Uses
unlimited = record { roomy = λ e n. true; leads = target_of; grown = λ s e. s ∷ e }

unfoldable pub push : Uses → Step → Reads (Unit {0})
push k s r = got tt (record { rest = r.rest; steps = k.grown s r.steps })

-- ---- fields of a file with `size` bytes

module _ (size : ℕ) where
  -- the place of the next byte
  unfoldable pub here : Reads ℕ
  here r = got (size - length r.rest) r

  -- a field of so many bytes has to fit (4, at its first byte)
  unfoldable pub enough : Part → ℕ → Reads (Unit {0})
  enough part n r = cond (nat_lt (length r.rest) n) (refused (because Short part (size - length r.rest))) (got tt r)

  -- a field of `unit` bytes has to fit (4), and its number to be below a limit (`why`, at its first byte)
  unfoldable pub below : Part → ℕ → ℕ → Reason → Reads ℕ
  below part unit limit why r =
      let place = size - length r.rest in
      let n = number (take unit r.rest) in
      cond (nat_lt (length r.rest) unit) (refused (because Short part place))
      (cond (nat_lt n limit) (got n (record { rest = drop unit r.rest; steps = r.steps })) (refused (because why part place)))

  -- so many numbers, each as such a field
  unfoldable pub series : Part → ℕ → ℕ → Reason → ℕ → Reads (List ℕ)
  series part unit limit why zero = return []
  series part unit limit why (suc n) = do
    x ← below part unit limit why
    xs ← series part unit limit why n
    return (x ∷ xs)

  -- the same as one field: all of it has to fit first; a bad entry is refused at its own place
  unfoldable pub run : Part → ℕ → ℕ → Reason → ℕ → Reads (List ℕ)
  unfolding series
  run part unit limit why n = do
    enough part (n * unit)
    series part unit limit why n

  -- a field of four bytes that may be any: no four bytes reach this limit
  abbrev pub any_word : Part → Reads ℕ
  any_word part = below part 4 word_end Large

  -- a count, size, length, head, class or arity: at most 2,147,483,647, else 5
  abbrev pub word : Part → Reads ℕ
  word part = below part 4 field_end Large

-- ---- headers

-- what a type and the bits 30-8 of a header announce, or for which reason they are refused
abbrev pub plain : ℕ → Form → Result Form Reason
plain bits f = cond (bits == 0) (Ok f) (Err BadBits)

-- the unit bits of a text are 1, 2 or 4; those of a shared text are dropped
abbrev pub text_form : ℕ → TextKind → Result Form Reason
text_form bits k =
    cond (bits == unit_bits One) (Ok (is_text k One))
    (cond (bits == unit_bits Two) (Ok (is_text k Two))
    (cond (bits == unit_bits Four) (Ok (is_text k Four))
    (cond (bits == share_mark + unit_bits One || (bits == share_mark + unit_bits Two || bits == share_mark + unit_bits Four)) (Ok (shares_text k)) (Err BadBits))))

abbrev pub list_form : ℕ → ListKind → Result Form Reason
list_form bits k = cond (bits == 0) (Ok (is_list k)) (cond (bits == share_mark) (Ok (shares_list k)) (Err BadBits))

abbrev pub object_form : ℕ → Result Form Reason
object_form bits =
    cond (bits == owner_mark false) (Ok (is_object false))
    (cond (bits == owner_mark true) (Ok (is_object true))
    (cond (bits == share_mark + owner_mark false) (Ok (shares_object false))
    (cond (bits == share_mark + owner_mark true) (Ok (shares_object true)) (Err BadBits))))

unfoldable pub announced : ℕ → ℕ → Result Form Reason
announced type bits =
    cond (type == none_type) (plain bits is_none)
    (cond (type == logic_type) (plain bits is_logic)
    (cond (type == char_type) (plain bits is_char)
    (cond (type == integer_type) (plain bits is_integer)
    (cond (type == float_type) (plain bits is_float)
    (cond (type == text_type String) (text_form bits String)
    (cond (type == text_type File) (text_form bits File)
    (cond (type == text_type Url) (text_form bits Url)
    (cond (type == list_type Block) (list_form bits Block)
    (cond (type == list_type Paren) (list_form bits Paren)
    (cond (type == list_type Path) (list_form bits Path)
    (cond (type == list_type LitPath) (list_form bits LitPath)
    (cond (type == list_type SetPath) (list_form bits SetPath)
    (cond (type == list_type GetPath) (list_form bits GetPath)
    (cond (type == object_type) (object_form bits) (Err BadType)))))))))))))))

-- a value's header that was read: its place, what it announces and the new-line mark
pub record Heading : Type 0 where
  pub place : ℕ
  pub form : Form
  pub new_line : Bool

-- 32 bits as a signed number, in two's complement
abbrev pub signed : ℕ → ℤ
signed n = cond (nat_lt n integer_end) (pos n) (negsuc (word_end - 1 - n))

abbrev pub is_nonzero : ℕ → Bool
is_nonzero n = nat_lt 0 n

-- ---- records

-- the names that symbol indexes stand for
unfoldable pub named_by : List Name → List ℕ → List Name
named_by table [] = []
named_by table (i ∷ is) = slice_index_or table i [] ∷ named_by table is

-- one value after the other, each under its name
unfoldable pub each : (Name → Reads (Unit {0})) → List Name → Reads (Unit {0})
each one [] = return tt
each one (n ∷ ns) = one n >> each one ns

-- a list or object with its values: an open, their steps and a close
unfoldable pub hold : Uses → (Name → Reads (Unit {0})) → Tag → Holder → List Name → Reads (Unit {0})
hold k one l h names = do
  push k (begin l (open' h))
  each one names
  push k close

-- a value that has no codepoints needs a cell and its name
abbrev pub bare : Name → Memory
bare n = so_much 1 0 (length n)

-- what stays the same while the records are read: the size of the file, that into which it is read, the symbols, and the payload's size
pub record Setting : Type 0 where
  pub size : ℕ
  pub uses : Uses
  pub table : List Name
  pub payload : ℕ

module _ (c : Setting) where
  -- first the type (8), then the other bits (9), both at the header
  abbrev pub heading_by : ℕ → Bool → Result Form Reason → Reads Heading
  heading_by place mark (Ok f) = return (record { place = place; form = f; new_line = mark })
  heading_by place mark (Err why) = refuse why Record place

  unfoldable pub heading_of : ℕ → ℕ → Reads Heading
  heading_of place h = heading_by place (is_nonzero (h / bit 31)) (announced (h % bit 8) (h / bit 8 % bit 23))

  -- behind padding a whole header of a float has to follow (8, at the padding); then all other bits of the padding have to be 0 (9, at the padding)
  unfoldable pub behind_padding : ℕ → ℕ → Reads Heading
  behind_padding place h = do
    bytes ← ahead
    refuse_when (nat_lt (length bytes) 4 || not (number (take 1 bytes) == float_type)) BadType Record place
    refuse_when (not (h == padding_type)) BadBits Record place
    start ← here c.size
    h' ← any_word c.size Record
    heading_of start h'

  -- a value's header, with the padding before it
  unfoldable pub heading : Reads Heading
  heading = do
    place ← here c.size
    h ← any_word c.size Record
    cond (h % bit 8 == padding_type) (behind_padding place h) (heading_of place h)

  -- memory for one more value (14, at its header)
  unfoldable pub room : ℕ → Memory → Reads (Unit {0})
  room place n r = cond (c.uses.roomy r.steps n) (got tt r) (refused (because NoMemory Record place))

  -- a put; `place` is where the header stands
  abbrev pub add : ℕ → Tag → Content → Reads (Unit {0})
  add place l v = do
    room place (need l.name (put v))
    push c.uses (begin l (put v))

  -- the value to which a path leads (11, at the reference's header)
  abbrev pub target_at : ℕ → Option Node → Reads Node
  target_at place None = refuse BadPath Reference place
  target_at place (Some t) = return t

  unfoldable pub target : ℕ → Family → List ℕ → Reads Node
  target place f p r = target_at place (c.uses.leads r.steps f p) r

  -- a share's reference, and then memory for the share
  unfoldable pub add_share : ℕ → Tag → Share → Reads (Unit {0})
  add_share start l s = do
    place ← here c.size
    h' ← any_word c.size Reference
    refuse_when (not (h' % bit 8 == reference_type)) BadType Reference place
    refuse_when (not (h' == reference_header)) BadBits Reference place
    n ← word c.size Reference
    p ← run c.size Reference 4 field_end Large n
    t ← target place (share_family s) p
    room start (bare l.name)
    push c.uses (begin l (share s t))

  -- a text's head, length, codepoints and the zeros behind them
  unfoldable pub add_text : ℕ → Tag → TextKind → ℕ → Reads (Unit {0})
  add_text start l k unit = do
    head ← word c.size Record
    n ← below c.size Record 4 text_length_end Large
    ps ← run c.size Record unit codepoint_end BadContent n
    zs ← run c.size Record 1 1 BadContent (fill 4 (unit * n))
    add start l (text k head ps)

  -- a float's 64 bits have to start at a multiple of 8 from the payload's first byte (10, at them)
  unfoldable pub on_boundary : Reads (Unit {0})
  on_boundary r = cond ((c.payload - length r.rest) % 8 == 0) (got tt r) (refused (because BadContent Record (c.size - length r.rest)))

  -- then they may be any: no eight bytes reach this limit
  unfoldable pub add_float : ℕ → Tag → Reads (Unit {0})
  add_float start l = do
    on_boundary
    n ← below c.size Record 8 float_end Large
    add start l (float n)

  -- a list's head and length, memory for it, and its values
  unfoldable pub add_list : (Name → Reads (Unit {0})) → ℕ → Tag → ListKind → Reads (Unit {0})
  add_list one start l k = do
    head ← word c.size Record
    n ← word c.size Record
    room start (bare l.name)
    hold c.uses one l (OfList k head) (replicate n [])

  -- an object's context, behind the object's owner mark, class, on-set and arity: the header with the self mark (8, 9), how many values there are, an index below the count of symbols for each (12), and these values
  unfoldable pub add_context : (Name → Reads (Unit {0})) → Tag → Bool → ℕ → ℕ → ℕ → Reads (Unit {0})
  add_context one l owner class on_set arity = do
    place ← here c.size
    h ← any_word c.size Record
    refuse_when (not (h % bit 8 == context_type)) BadType Record place
    refuse_when (not (h == context_header false || h == context_header true)) BadBits Record place
    n ← word c.size Record
    is ← run c.size Record 4 (length c.table) BadIndex n
    hold c.uses one l (OfObject owner (h == context_header true) class on_set arity) (named_by c.table is)

  -- an object's class, on-set and arity, memory for it, and its context
  unfoldable pub add_object : (Name → Reads (Unit {0})) → ℕ → Tag → Bool → Reads (Unit {0})
  add_object one start l owner = do
    class ← word c.size Record
    on_set ← any_word c.size Record
    arity ← word c.size Record
    room start (bare l.name)
    add_context one l owner class on_set arity

  -- what stands behind a value's header; `one` reads an inner value, `start` is where the header stands
  unfoldable pub content : (Name → Reads (Unit {0})) → ℕ → Tag → Form → Reads (Unit {0})
  content one start l is_none = add start l none
  content one start l is_logic = below c.size Record 4 2 BadContent >>= λ n. add start l (logic (is_nonzero n))
  content one start l is_char = below c.size Record 4 codepoint_end BadContent >>= λ n. add start l (char n)
  content one start l is_integer = any_word c.size Record >>= λ n. add start l (integer (signed n))
  content one start l is_float = add_float start l
  content one start l (is_text k u) = add_text start l k (width u)
  content one start l (is_list k) = add_list one start l k
  content one start l (is_object w) = add_object one start l w
  content one start l (shares_text k) = word c.size Record >>= λ n. add_share start l (ShareText k n)
  content one start l (shares_list k) = word c.size Record >>= λ n. add_share start l (ShareList k n)
  content one start l (shares_object w) = add_share start l (ShareObject w)

  -- one value, where so many levels are still permitted: its header, then its depth (13, at the header), then the rest
  unfoldable pub value : ℕ → Name → Reads (Unit {0})
  value zero name = heading >>= λ h. refuse TooDeep Record h.place
  value (suc d) name = heading >>= λ h. content (value d) h.place (record { new_line = h.new_line; name = name }) h.form

-- ---- the symbol table

abbrev pub before : ℕ → Option Name → Option Name
before b None = None
before b (Some n) = Some (b ∷ n)

-- the name at the start of some bytes, which ends before a zero byte
unfoldable pub until_zero : List ℕ → Option Name
until_zero [] = None
until_zero (zero ∷ bs) = Some []
until_zero (suc b ∷ bs) = before (suc b) (until_zero bs)

abbrev pub if_lawful : Option Name → Option Name
if_lawful None = None
if_lawful (Some n) = cond (lawful_name n) (Some n) None

-- the name to which an offset leads; an offset behind the strings leads to none
abbrev pub name_at : List ℕ → ℕ → Option Name
name_at strings o = if_lawful (until_zero (drop o strings))

-- no lawful name there: 7, at the offset
unfoldable pub name_or_refuse : ℕ → Option Name → Reads Name
name_or_refuse place None = refuse BadSymbol Symbols place
name_or_refuse place (Some n) = return n

-- the names of offsets, the first of which stands at a place
unfoldable pub names_at : List ℕ → ℕ → List ℕ → Reads (List Name)
names_at strings place [] = return []
names_at strings place (o ∷ os) = do
  n ← name_or_refuse place (name_at strings o)
  ns ← names_at strings (place + 4) os
  return (n ∷ ns)

-- how many names, the strings' size, the offsets, which may be any, and the strings; then the names
unfoldable pub symbol_table : ℕ → Reads (List Name)
symbol_table size = do
  n ← word size Symbols
  bytes ← word size Symbols
  place ← here size
  os ← run size Symbols 4 word_end Large n
  enough size Symbols bytes
  strings ← skip bytes
  names_at strings place os

-- ---- the whole file

-- the first eight bytes, and the length of the file: 1, 2, 3, 5
unfoldable pub start_of_file : List ℕ → Reads (Unit {0})
start_of_file bytes = do
  refuse_when (nat_lt (length bytes) file_header_size || not (same (take (length letters) bytes) letters)) NotRedbin Header 0
  refuse_when (not (slice_index bytes version_place == version)) Version Header version_place
  refuse_when (not (slice_index bytes flags_place == 0 || slice_index bytes flags_place == table_flag)) Flags Header flags_place
  refuse_when (nat_lt largest_file (length bytes)) Large Header 0
  start ← skip start_size
  return tt

-- the payload, which has to be the rest of the file (4 and 6, at the field of its size): so many root values, and nothing behind them (6, at the first byte behind)
unfoldable pub records : Setting → ℕ → Reads (Unit {0})
records c count = do
  n ← left
  refuse_when (nat_lt n c.payload) Short Header payload_size_place
  refuse_when (nat_lt c.payload n) LeftOver Header payload_size_place
  each (value c deepest) (replicate count [])
  k ← left
  refuse_when (nat_lt 0 k) LeftOver Record (c.size - k)

unfoldable pub whole_file : Uses → List ℕ → Reads (Unit {0})
whole_file k bytes = do
  let size = length bytes
  start_of_file bytes
  count ← word size Header
  payload ← word size Header
  table ← cond (slice_index bytes flags_place == table_flag) (symbol_table size) (return [])
  records (record { size = size; uses = k; table = table; payload = payload }) count

-- ---- what is answered

abbrev pub answer : Read (Unit {0}) → Result Steps Refusal
answer (got u r) = Ok r.steps
answer (refused x) = Err x

-- the steps of a file, the newest first, or why it is refused
unfoldable pub read : Uses → List ℕ → Result Steps Refusal
read k bytes = answer (whole_file k bytes (record { rest = bytes; steps = [] }))

-- what load answers on a draft with this memory, in which these steps stand
abbrev pub load : Memory → Steps → List ℕ → Result Steps Refusal
load m [] bytes = read (in_memory m) bytes
load m (s ∷ e) bytes = Err (because StepsStand Draft 0)

-- the steps that a file means, whatever the memory; none if it is refused
abbrev pub steps_or_none : Result Steps Refusal → Steps
steps_or_none (Ok e) = e
steps_or_none (Err x) = []

abbrev pub file_steps : List ℕ → Steps
file_steps bytes = steps_or_none (read unlimited bytes)
