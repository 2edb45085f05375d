-- The layout of a file, for writing and for reading: its fixed bytes, the types and bits of headers, and the limits of fields. All fields are little-endian.
use Rattle.std.specs.Prelude.{ℕ, ◌+◌, ◌-◌, ◌*◌, Bool, cond, List, [], ◌∷◌}
use Rattle.steps.specs.declared.parts.TextKind.{TextKind}
use Rattle.steps.specs.declared.parts.TextKind.TheVariants.{String, File, Url}
use Rattle.steps.specs.declared.parts.ListKind.{ListKind}
use Rattle.steps.specs.declared.parts.ListKind.TheVariants.{Block, Paren, Path, LitPath, SetPath, GetPath}
use Rattle.redbin.specs.declared.form.Form.{Form}
use Rattle.redbin.specs.declared.form.Form.TheVariants.{Nothing, Logic, Char, Integer, Float, Text, List as OfList, Object as OfObject, ShareText, ShareList, ShareObject}
use Rattle.redbin.specs.declared.width.Width.{Width}
use Rattle.redbin.specs.declared.width.Width.TheVariants.{One, Two, Four}
use Rattle.redbin.specs.Bytes.{bit}

-- ---- the file
-- A file has a header: the letters REDBIN, the version (1 byte), the flags (1), the number of root values (4), the payload's size (4); then the symbol table, if the flags say so: count (4), strings size (4), count offsets (4 each), the strings; then the payload: the records of the root values, each with those of its inner values behind it.

abbrev pub letters : List ℕ
letters = 0x52 ∷ 0x45 ∷ 0x44 ∷ 0x42 ∷ 0x49 ∷ 0x4E ∷ []

-- where the version, the flags and the payload's size stand
abbrev pub version_place : ℕ
version_place = 6

abbrev pub flags_place : ℕ
flags_place = 7

abbrev pub payload_size_place : ℕ
payload_size_place = 12

-- how many bytes the letters, the version and the flags have together
abbrev pub start_size : ℕ
start_size = 8

-- how many bytes the whole header has
abbrev pub file_header_size : ℕ
file_header_size = 16

abbrev pub version : ℕ
version = 2

-- the only flag that may be set, bit 2: a symbol table is present
abbrev pub table_flag : ℕ
table_flag = bit 2

-- a file has at most so many bytes
abbrev pub largest_file : ℕ
largest_file = bit 20

-- ---- limits of fields, besides those that the law of steps has

-- the length of a text stops here
abbrev pub text_length_end : ℕ
text_length_end = bit 24

-- codepoints of one byte, and of two, stop here
abbrev pub one_byte_end : ℕ
one_byte_end = bit 8

abbrev pub two_bytes_end : ℕ
two_bytes_end = bit 16

-- ---- records
-- A record is a header of four bytes and what its type says below. In a header bits 7-0 are the type and bit 31 is the new-line mark of any value; every bit that is not named here is 0.

-- padding: nothing behind the header; directly before a float only; no value, so no new-line mark
abbrev pub padding_type : ℕ
padding_type = 0

-- context, in an object only: length (4 bytes), that many symbol indexes (4 each), that many values named by them
abbrev pub context_type : ℕ
context_type = 14

-- reference, in a share only: length (4), that many offsets (4 each)
abbrev pub reference_type : ℕ
reference_type = 255

-- none: nothing
abbrev pub none_type : ℕ
none_type = 3

-- logic: 0 or 1 (4)
abbrev pub logic_type : ℕ
logic_type = 4

-- char: codepoint (4)
abbrev pub char_type : ℕ
char_type = 10

-- integer: value (4), in two's complement
abbrev pub integer_type : ℕ
integer_type = 11

-- float: 64 bits (8), which start at a multiple of 8 from the payload's first byte
abbrev pub float_type : ℕ
float_type = 12

-- object: class (4), on-set (4), arity (4), a context; a shared one: a reference
abbrev pub object_type : ℕ
object_type = 32

-- texts: head (4), length (4), that many codepoints of 1, 2 or 4 bytes, zero bytes to a multiple of 4; a shared one: head (4), a reference
abbrev pub text_type : TextKind → ℕ
text_type String = 7
text_type File = 8
text_type Url = 9

-- lists: head (4), length (4), that many values; a shared one: head (4), a reference
abbrev pub list_type : ListKind → ℕ
list_type Block = 5
list_type Paren = 6
list_type Path = 25
list_type LitPath = 26
list_type SetPath = 27
list_type GetPath = 28

-- the type of a value
abbrev pub type_of : Form → ℕ
type_of Nothing = none_type
type_of Logic = logic_type
type_of Char = char_type
type_of Integer = integer_type
type_of Float = float_type
type_of (Text k u) = text_type k
type_of (OfList k) = list_type k
type_of (OfObject w) = object_type
type_of (ShareText k) = text_type k
type_of (ShareList k) = list_type k
type_of (ShareObject w) = object_type

-- bits 30-8 of a header are taken as one number; so much is bit n of the header in it
abbrev pub mark : ℕ → ℕ
mark n = bit (n - 8)

-- how many bytes a number of this width has
abbrev pub width : Width → ℕ
width One = 1
width Two = 2
width Four = 4

-- bits 15-8 of a text are how many bytes each codepoint has: 1, 2 or 4
abbrev pub unit_bits : Width → ℕ
unit_bits u = width u * mark 8

-- bit 19 makes a list, text or object a share
abbrev pub share_mark : ℕ
share_mark = mark 19

-- bit 24 is the owner mark of an object
abbrev pub owner_mark : Bool → ℕ
owner_mark w = cond w (mark 24) 0

-- bits 30-8 of a value's header, as they are written: a shared text has the unit 1
abbrev pub bits_of : Form → ℕ
bits_of Nothing = 0
bits_of Logic = 0
bits_of Char = 0
bits_of Integer = 0
bits_of Float = 0
bits_of (Text k u) = unit_bits u
bits_of (OfList k) = 0
bits_of (OfObject w) = owner_mark w
bits_of (ShareText k) = share_mark + unit_bits One
bits_of (ShareList k) = share_mark
bits_of (ShareObject w) = share_mark + owner_mark w

-- the header of a value
abbrev pub header : Form → Bool → ℕ
header f new_line = type_of f + bit 8 * bits_of f + cond new_line (bit 31) 0

-- the header of a context: bits 27-26 are 2, bit 28 is the self mark of the object; no new-line mark
abbrev pub context_header : Bool → ℕ
context_header self = context_type + 2 * bit 26 + cond self (bit 28) 0

-- the header of a reference: no bit besides the type
abbrev pub reference_header : ℕ
reference_header = reference_type
