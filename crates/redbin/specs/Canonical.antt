-- The canonical form: the one file that stands for steps in which nothing is open.
use Rattle.std.specs.Prelude.{ℕ, suc, ◌+◌, ◌-◌, ◌*◌, ◌%◌, cond, List, [], ◌∷◌, ◌++◌, map, length, ℤ, pos, negsuc, ◌==◌}
use Rattle.steps.specs.declared.parts.Node.TheVariants.{Root, At}
use Rattle.steps.specs.declared.parts.Holder.TheVariants.{List as OfList, Object as OfObject}
use Rattle.steps.specs.declared.parts.Share.TheVariants.{List as ShareList, Text as ShareText, Object as ShareObject}
use Rattle.steps.specs.Steps.{Name, Tag, none, logic, char, integer, float, text, Begun, put, open', share, begin, close, Steps}
use Rattle.steps.specs.Outline.{Entry, values, inner_names, path_to}
use Rattle.steps.specs.Law.{word_end}
use Rattle.redbin.specs.declared.form.Form.TheVariants.{Nothing as is_none, Logic as is_logic, Char as is_char, Integer as is_integer, Float as is_float, Text as is_text, List as is_list, Object as is_object, ShareText as shares_text, ShareList as shares_list, ShareObject as shares_object}
use Rattle.redbin.specs.declared.width.Width.{Width}
use Rattle.redbin.specs.declared.width.Width.TheVariants.{One, Two, Four}
use Rattle.redbin.specs.Bytes.{bytes_of, fields, words, fill, zeros, all_below, same}
use Rattle.redbin.specs.Layout.{letters, version, table_flag, one_byte_end, two_bytes_end, padding_type, width, header, context_header, reference_header}

-- ---- contents

-- the width of each codepoint of a text: the smallest that fits them all, so one byte if the text is empty
unfoldable pub narrowest : List ℕ → Width
narrowest ps = cond (all_below one_byte_end ps) One (cond (all_below two_bytes_end ps) Two Four)

-- how many bytes that is
abbrev pub unit : List ℕ → ℕ
unit ps = width (narrowest ps)

-- the 32 bits of a signed number, in two's complement
abbrev pub bits32 : ℤ → ℕ
bits32 (pos n) = n
bits32 (negsuc n) = word_end - 1 - n

-- ---- names: the symbols are the names used, once each, in the order in which their indexes first stand in the payload

-- where a name stands among the symbols
unfoldable pub index_of : List Name → Name → ℕ
index_of [] n = 0
index_of (m ∷ ms) n = cond (same m n) 0 (suc (index_of ms n))

unfoldable pub without : Name → List Name → List Name
without n [] = []
without n (m ∷ ms) = cond (same m n) (without n ms) (m ∷ without n ms)

-- each name once, where it first stands
unfoldable pub once : List Name → List Name
once [] = []
once (n ∷ ns) = n ∷ without n (once ns)

-- the names whose indexes the record of the value n has: an object's are those of its inner values, in order
abbrev pub names_if_object : List Entry → ℕ → Begun → List Name
names_if_object all n (put v) = []
names_if_object all n (open' (OfList k h)) = []
names_if_object all n (open' (OfObject w s c t a)) = inner_names all (At n)
names_if_object all n (share s t) = []

-- the names in the order in which their indexes stand in the payload
unfoldable pub written_names : List Entry → List Entry → List Name
written_names all [] = []
written_names all (x ∷ xs) = written_names all xs ++ names_if_object all (length xs) x.begun

unfoldable pub symbols : List Entry → List Name
symbols all = once (written_names all all)

-- ---- records

-- padding stands before a float exactly when the float's header would start at a multiple of 8, so that its 64 bits start at one
abbrev pub padding : ℕ → List ℕ
padding place = cond (place % 8 == 0) (words (padding_type ∷ [])) []

-- a reference to a value: the header, how many offsets its path has, and these
abbrev pub reference : List ℕ → List ℕ
reference p = reference_header ∷ length p ∷ p

-- the record of one value: `all` are the values of the whole document, `before` those begun earlier, `place` is where the record starts in the payload
-- the inner values of a list or object have their records behind it
-- a share refers to its target by the path of inner places from the root, never through a shared value
unfoldable pub record_of : List Entry → List Entry → ℕ → Tag → Begun → List ℕ
record_of all before place l (put none) = words (header is_none l.new_line ∷ [])
record_of all before place l (put (logic b)) = words (header is_logic l.new_line ∷ cond b 1 0 ∷ [])
record_of all before place l (put (char n)) = words (header is_char l.new_line ∷ n ∷ [])
record_of all before place l (put (integer z)) = words (header is_integer l.new_line ∷ bits32 z ∷ [])
record_of all before place l (put (float n)) = padding place ++ (words (header is_float l.new_line ∷ []) ++ bytes_of 8 n)
record_of all before place l (put (text k h ps)) =
    words (header (is_text k (narrowest ps)) l.new_line ∷ h ∷ length ps ∷ []) ++ (fields (unit ps) ps ++ zeros (fill 4 (unit ps * length ps)))
record_of all before place l (open' (OfList k h)) =
    words (header (is_list k) l.new_line ∷ h ∷ length (inner_names all (At (length before))) ∷ [])
record_of all before place l (open' (OfObject w s c t a)) =
    let names = inner_names all (At (length before)) in
    words (header (is_object w) l.new_line ∷ c ∷ t ∷ a ∷ context_header s ∷ length names ∷ map (index_of (symbols all)) names)
record_of all before place l (share (ShareList k h) t) = words (header (shares_list k) l.new_line ∷ h ∷ reference (path_to before t))
record_of all before place l (share (ShareText k h) t) = words (header (shares_text k) l.new_line ∷ h ∷ reference (path_to before t))
record_of all before place l (share (ShareObject w) t) = words (header (shares_object w) l.new_line ∷ reference (path_to before t))

-- the records of the values that these steps begin, in a document whose values are `all`; a close has no record
abbrev pub payload : List Entry → Steps → List ℕ
payload all [] = []
payload all (begin l b ∷ e) =
    let p = payload all e in
    p ++ record_of all (values e) (length p) l b
payload all (close ∷ e) = payload all e

-- ---- the symbol table

-- a name among the strings: a zero byte follows, and zeros to a multiple of 8 from the strings' start
abbrev pub stored : Name → List ℕ
stored n = n ++ 0 ∷ zeros (fill 8 (length n + 1))

unfoldable pub strings : List Name → List ℕ
strings [] = []
strings (n ∷ ns) = stored n ++ strings ns

-- where in the strings each name starts
unfoldable pub offsets : ℕ → List Name → List ℕ
offsets o [] = []
offsets o (n ∷ ns) = o ∷ offsets (o + length (stored n)) ns

-- the table: how many names, the strings' size, the offsets, the strings; absent where no name is used
abbrev pub table : List Name → List ℕ
table [] = []
table (n ∷ ns) =
    let all = n ∷ ns in
    words (length all ∷ length (strings all) ∷ offsets 0 all) ++ strings all

abbrev pub flags_for : List Name → ℕ
flags_for [] = 0
flags_for (n ∷ ns) = table_flag

-- ---- the whole file

unfoldable pub canonical : Steps → List ℕ
canonical e =
    let all = values e in
    let names = symbols all in
    let records = payload all e in
    letters ++ (version ∷ flags_for names ∷ (words (length (inner_names all Root) ∷ length records ∷ []) ++ (table names ++ records)))
