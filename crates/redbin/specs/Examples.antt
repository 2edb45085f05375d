-- Worked examples: files in numbers, and what the definitions make of them.
use Rattle.std.specs.Prelude.{◌≡◌, ℕ, zero, suc, true, false, List, [], ◌∷◌, ◌++◌, length, drop, replicate, pos, negsuc, Ok, Err, Result}
use Rattle.refusal.specs.declared.Part.{Part}
use Rattle.refusal.specs.declared.Part.TheVariants.{Header, Symbols, Record, Reference, Draft}
use Rattle.refusal.specs.declared.Refusal.{Refusal}
use Rattle.refusal.specs.Numbers.{number}
use Rattle.steps.specs.declared.parts.TextKind.TheVariants.{String, File, Url}
use Rattle.steps.specs.declared.parts.ListKind.TheVariants.{Block, Paren, Path, LitPath, SetPath, GetPath}
use Rattle.steps.specs.declared.parts.Node.TheVariants.{At}
use Rattle.steps.specs.declared.parts.Holder.TheVariants.{List as OfList, Object as OfObject}
use Rattle.steps.specs.declared.parts.Share.TheVariants.{List as ShareList, Text as ShareText, Object as ShareObject}
use Rattle.steps.specs.Steps.{Name, none, logic, char, integer, float, text, Begun, put, open', share, Step, begin, close, Steps}
use Rattle.steps.specs.Law.{so_much, limit}
use Rattle.redbin.specs.Bytes.{words}
use Rattle.redbin.specs.Canonical.{canonical}
use Rattle.redbin.specs.Reading.{load, file_steps}

-- ---- what is answered

-- a refusal by its number, its part and its place
pub data Outcome : Type 0 where
  loads : Steps → Outcome
  refuses : ℕ → Part → ℕ → Outcome

abbrev pub outcome : Result Steps Refusal → Outcome
outcome (Ok e) = loads e
outcome (Err x) = refuses (number x.reason) x.part x.place

-- on an empty draft with all the memory that it can use
abbrev pub gives : List ℕ → Outcome
gives f = outcome (load limit [] f)

-- with so many cells, codepoints and name bytes
abbrev pub gives_in : ℕ → ℕ → ℕ → List ℕ → Outcome
gives_in c p n f = outcome (load (so_much c p n) [] f)

-- ---- files

abbrev pub redbin : List ℕ
redbin = 0x52 ∷ 0x45 ∷ 0x44 ∷ 0x42 ∷ 0x49 ∷ 0x4E ∷ []

-- so many root values, and the payload; without a table, and with one
abbrev pub file : ℕ → List ℕ → List ℕ
file count payload = redbin ++ (2 ∷ 0 ∷ (words (count ∷ length payload ∷ []) ++ payload))

abbrev pub file_with : List ℕ → ℕ → List ℕ → List ℕ
file_with table count payload = redbin ++ (2 ∷ 4 ∷ (words (count ∷ length payload ∷ []) ++ (table ++ payload)))

-- the offsets and the strings of a table
abbrev pub table : List ℕ → List ℕ → List ℕ
table offsets strings = words (length offsets ∷ length strings ∷ offsets) ++ strings

-- a version, flags, and so many zeros behind the 16 bytes of the header
abbrev pub long : ℕ → ℕ → ℕ → List ℕ
long version flags n = redbin ++ (version ∷ flags ∷ (words (0 ∷ 0 ∷ []) ++ replicate n 0))

-- one root value
abbrev pub lone : List ℕ → List ℕ
lone ws = file 1 (words ws)

-- a text of one string record: head 0, so many codepoints, and bytes
abbrev pub string : ℕ → ℕ → List ℕ → List ℕ
string header n bytes = file 1 (words (header ∷ 0 ∷ n ∷ []) ++ bytes)

-- ---- steps

-- steps are written here the oldest first
abbrev pub behind : List Step → Steps → Steps
behind [] e = e
behind (s ∷ ss) e = behind ss (s ∷ e)

abbrev pub steps : List Step → Steps
steps ss = behind ss []

abbrev pub plain : Begun → Step
plain b = begin (record { new_line = false; name = [] }) b

abbrev pub marked : Begun → Step
marked b = begin (record { new_line = true; name = [] }) b

abbrev pub named : Name → Begun → Step
named n b = begin (record { new_line = false; name = n }) b

abbrev pub block : Step
block = plain (open' (OfList Block 0))

-- an object whose fields and marks are all 0
abbrev pub object : Begun
object = open' (OfObject false false 0 0 0)

-- ---- documents

abbrev pub holds_itself : Steps
holds_itself = steps (block ∷ plain (share (ShareList Block 0) (At 0)) ∷ close ∷ [])

-- its payload, with a last offset
abbrev pub holds : ℕ → List ℕ
holds offset = file 1 (words (0x05 ∷ 0 ∷ 1 ∷ 0x80005 ∷ 0 ∷ 0xFF ∷ 1 ∷ offset ∷ []))

abbrev pub dirty : Name
dirty = 0x64 ∷ 0x69 ∷ 0x72 ∷ 0x74 ∷ 0x79 ∷ []

abbrev pub muzzy : Name
muzzy = 0x6D ∷ 0x75 ∷ 0x7A ∷ 0x7A ∷ 0x79 ∷ []

abbrev pub tuning : Steps
tuning =
    steps (plain (open' (OfObject false false 1 0 0)) ∷ named dirty (put (integer (pos 10000))) ∷ named muzzy (put (integer (negsuc 0))) ∷ close ∷ [])

abbrev pub tuning_file : List ℕ
tuning_file =
    file_with (table (0 ∷ 8 ∷ []) (dirty ++ (0 ∷ 0 ∷ 0 ∷ (muzzy ++ (0 ∷ 0 ∷ 0 ∷ []))))) 1
    (words (0x20 ∷ 1 ∷ 0 ∷ 0 ∷ 0x0800000E ∷ 2 ∷ 0 ∷ 1 ∷ 0x0B ∷ 10000 ∷ 0x0B ∷ 0xFFFFFFFF ∷ []))

-- names of 1, 7 and 8 bytes; the names of the outer object stand before those of the inner one
abbrev pub a : Name
a = 0x61 ∷ []

abbrev pub seven : Name
seven = 0x61 ∷ 0x62 ∷ 0x63 ∷ 0x64 ∷ 0x65 ∷ 0x66 ∷ 0x67 ∷ []

abbrev pub eight : Name
eight = seven ++ (0x68 ∷ [])

abbrev pub in_two : Steps
in_two =
    steps
    (plain object ∷ named seven object ∷ named a (put none) ∷ named seven (put none) ∷ close ∷ named eight (put none) ∷ named a (put none) ∷ close ∷ [])

abbrev pub in_two_file : List ℕ
in_two_file =
    file_with (table (0 ∷ 8 ∷ 24 ∷ []) (seven ++ (0 ∷ (eight ++ (0 ∷ (replicate 7 0 ++ (0x61 ∷ 0 ∷ replicate 6 0))))))) 1
    (words (0x20 ∷ 0 ∷ 0 ∷ 0 ∷ 0x0800000E ∷ 3 ∷ 0 ∷ 1 ∷ 2 ∷ 0x20 ∷ 0 ∷ 0 ∷ 0 ∷ 0x0800000E ∷ 2 ∷ 2 ∷ 0 ∷ 3 ∷ 3 ∷ 3 ∷ 3 ∷ []))

-- every sort of value: the steps, the oldest first, each with the fields of its record, of four bytes each
abbrev pub every_sort : List (Step × List ℕ)
every_sort =
    (marked (put none), 0x80000003 ∷ [])
    ∷ (plain (put (logic true)), 0x04 ∷ 1 ∷ [])
    ∷ (plain (put (logic false)), 0x04 ∷ 0 ∷ [])
    ∷ (plain (put (char 0x10FFFF)), 0x0A ∷ 0x10FFFF ∷ [])
    ∷ (plain (put (integer (pos 2147483647))), 0x0B ∷ 0x7FFFFFFF ∷ [])
    ∷ (plain (put (integer (negsuc 2147483647))), 0x0B ∷ 0x80000000 ∷ [])
    ∷ (plain (put (float 0x3FF0000000000000)), 0x0C ∷ 0 ∷ 0x3FF00000 ∷ [])
    ∷ (plain (put (text String 1 (255 ∷ []))), 0x107 ∷ 1 ∷ 1 ∷ 0xFF ∷ [])
    ∷ (plain (put (text File 0 (256 ∷ 65535 ∷ []))), 0x208 ∷ 0 ∷ 2 ∷ 0xFFFF0100 ∷ [])
    ∷ (plain (put (text Url 0 (65536 ∷ []))), 0x409 ∷ 0 ∷ 1 ∷ 0x10000 ∷ [])
    ∷ (marked (put (text String 0 [])), 0x80000107 ∷ 0 ∷ 0 ∷ [])
    ∷ (plain (open' (OfList Block 2)), 0x05 ∷ 2 ∷ 5 ∷ [])
    ∷ (plain (open' (OfList Paren 0)), 0x06 ∷ 0 ∷ 0 ∷ [])
    ∷ (close, [])
    ∷ (plain (open' (OfList Path 0)), 0x19 ∷ 0 ∷ 0 ∷ [])
    ∷ (close, [])
    ∷ (plain (open' (OfList LitPath 0)), 0x1A ∷ 0 ∷ 0 ∷ [])
    ∷ (close, [])
    ∷ (plain (open' (OfList SetPath 0)), 0x1B ∷ 0 ∷ 0 ∷ [])
    ∷ (close, [])
    ∷ (plain (open' (OfList GetPath 0)), 0x1C ∷ 0 ∷ 0 ∷ [])
    ∷ (close, [])
    ∷ (close, [])
    ∷ (plain (open' (OfObject true true 1 0xFFFFFFFF 2)), 0x01000020 ∷ 1 ∷ 0xFFFFFFFF ∷ 2 ∷ 0x1800000E ∷ 2 ∷ 0 ∷ 1 ∷ [])
    ∷ (named (0x61 ∷ []) (put none), 0x03 ∷ [])
    ∷ (named (0x62 ∷ []) object, 0x20 ∷ 0 ∷ 0 ∷ 0 ∷ 0x0800000E ∷ 1 ∷ 0 ∷ [])
    ∷ (named (0x61 ∷ []) (put none), 0x03 ∷ [])
    ∷ (close, [])
    ∷ (close, [])
    ∷ (plain (share (ShareList Path 3) (At 11)), 0x80019 ∷ 3 ∷ 0xFF ∷ 1 ∷ 11 ∷ [])
    ∷ (plain (share (ShareText Url 4) (At 7)), 0x80109 ∷ 4 ∷ 0xFF ∷ 1 ∷ 7 ∷ [])
    ∷ (plain (share (ShareObject true) (At 19)), 0x01080020 ∷ 0xFF ∷ 2 ∷ 12 ∷ 1 ∷ [])
    ∷ (marked (share (ShareObject false) (At 17)), 0x80080020 ∷ 0xFF ∷ 1 ∷ 12 ∷ [])
    ∷ (plain (share (ShareList Block 0) (At 13)), 0x80005 ∷ 0 ∷ 0xFF ∷ 2 ∷ 11 ∷ 1 ∷ [])
    ∷ []

abbrev pub first_parts : List (Step × List ℕ) → List Step
first_parts [] = []
first_parts (x ∷ xs) = x.0 ∷ first_parts xs

abbrev pub second_parts : List (Step × List ℕ) → List ℕ
second_parts [] = []
second_parts (x ∷ xs) = x.1 ++ second_parts xs

abbrev pub everything : Steps
everything = steps (first_parts every_sort)

abbrev pub everything_file : List ℕ
everything_file =
    redbin
    ++ (2 ∷ 4 ∷ (words (18 ∷ 356 ∷ 2 ∷ 16 ∷ 0 ∷ 8 ∷ [])
    ++ (0x61 ∷ 0 ∷ 0 ∷ 0 ∷ 0 ∷ 0 ∷ 0 ∷ 0 ∷ 0x62 ∷ 0 ∷ 0 ∷ 0 ∷ 0 ∷ 0 ∷ 0 ∷ 0 ∷ words (second_parts every_sort))))

-- so many blocks, each but the last holding the next
abbrev pub nest : ℕ → List ℕ
nest zero = []
nest (suc zero) = words (5 ∷ 0 ∷ 0 ∷ [])
nest (suc (suc n)) = words (5 ∷ 0 ∷ 1 ∷ []) ++ nest (suc n)

-- blocks that each hold one value, and something in the innermost of them
abbrev pub under : ℕ → List ℕ → List ℕ
under zero inside = inside
under (suc n) inside = words (5 ∷ 0 ∷ 1 ∷ []) ++ under n inside

-- at depth 33
abbrev pub deep : List ℕ → List ℕ
deep ws = file 1 (under 32 (words ws))

abbrev pub opens : ℕ → Steps → Steps
opens zero e = e
opens (suc n) e = opens n (block ∷ e)

-- an object with one none named `a`, by an index, behind a table
abbrev pub one_named : List ℕ → ℕ → List ℕ
one_named names index = file_with names 1 (words (0x20 ∷ 0 ∷ 0 ∷ 0 ∷ 0x0800000E ∷ 1 ∷ index ∷ 3 ∷ []))

abbrev pub one_none : Name → Outcome
one_none n = loads (steps (plain object ∷ named n (put none) ∷ close ∷ []))

-- a block with a paren in it, a share of the block, and a share by a path
abbrev pub shared_twice : List ℕ → List ℕ
shared_twice path =
    file 3 (words (0x05 ∷ 0 ∷ 1 ∷ 0x06 ∷ 0 ∷ 0 ∷ 0x80005 ∷ 1 ∷ 0xFF ∷ 1 ∷ 0 ∷ 0x80005 ∷ 0 ∷ 0xFF ∷ length path ∷ path))

abbrev pub shares_of : ℕ → Outcome
shares_of t = loads (steps (block ∷ plain (open' (OfList Paren 0)) ∷ close ∷ close ∷ plain (share (ShareList Block 1) (At 0)) ∷ plain (share (ShareList Block 0) (At t)) ∷ []))

-- ---- the table

abbrev pub Examples : Type 0
Examples =
    -- the canonical form
    (canonical [] ≡ 0x52 ∷ 0x45 ∷ 0x44 ∷ 0x42 ∷ 0x49 ∷ 0x4E ∷ 0x02 ∷ 0x00 ∷ 0 ∷ 0 ∷ 0 ∷ 0 ∷ 0 ∷ 0 ∷ 0 ∷ 0 ∷ [])
    × (canonical (steps (plain (put (float 0x0807060504030201)) ∷ []))
    ≡ redbin ++ (2 ∷ 0 ∷ 1 ∷ 0 ∷ 0 ∷ 0 ∷ 16 ∷ 0 ∷ 0 ∷ 0 ∷ 0 ∷ 0 ∷ 0 ∷ 0 ∷ 0x0C ∷ 0 ∷ 0 ∷ 0 ∷ 1 ∷ 2 ∷ 3 ∷ 4 ∷ 5 ∷ 6 ∷ 7 ∷ 8 ∷ []))
    × (canonical (steps (plain (put none) ∷ plain (put (float 0x0807060504030201)) ∷ []))
    ≡ redbin ++ (2 ∷ 0 ∷ 2 ∷ 0 ∷ 0 ∷ 0 ∷ 16 ∷ 0 ∷ 0 ∷ 0 ∷ 3 ∷ 0 ∷ 0 ∷ 0 ∷ 0x0C ∷ 0 ∷ 0 ∷ 0 ∷ 1 ∷ 2 ∷ 3 ∷ 4 ∷ 5 ∷ 6 ∷ 7 ∷ 8 ∷ []))
    × (drop 16 (canonical (steps (plain (put none) ∷ marked (put none) ∷ marked (put (float 0)) ∷ []))) ≡ words (3 ∷ 0x80000003 ∷ 0 ∷ 0x8000000C ∷ 0 ∷ 0 ∷ []))
    × (drop 16 (canonical holds_itself)
    ≡ 0x05 ∷ 0 ∷ 0 ∷ 0 ∷ 0 ∷ 0 ∷ 0 ∷ 0 ∷ 0x01 ∷ 0 ∷ 0 ∷ 0 ∷ 0x05 ∷ 0 ∷ 0x08 ∷ 0 ∷ 0 ∷ 0 ∷ 0 ∷ 0 ∷ 0xFF ∷ 0 ∷ 0 ∷ 0 ∷ 0x01 ∷ 0 ∷ 0 ∷ 0 ∷ 0 ∷ 0 ∷ 0 ∷ 0 ∷ [])
    × (length (canonical holds_itself) ≡ 48)
    × (length (canonical tuning) ≡ 96)
    × (canonical tuning ≡ tuning_file)
    × (canonical in_two ≡ in_two_file)
    × (canonical everything ≡ everything_file)
    -- what it means
    × (gives (canonical []) ≡ loads [])
    × (gives (canonical holds_itself) ≡ loads holds_itself)
    × (gives (canonical tuning) ≡ loads tuning)
    × (gives in_two_file ≡ loads in_two)
    × (gives everything_file ≡ loads everything)
    × (file_steps everything_file ≡ everything)
    × (gives (lone (0 ∷ 0x8000000C ∷ 1 ∷ 2 ∷ [])) ≡ loads (steps (marked (put (float 0x200000001)) ∷ [])))
    -- 1: at least 16 bytes, and the letters
    × (gives (redbin ++ (2 ∷ replicate 8 0)) ≡ refuses 1 Header 0)
    × (gives (0x52 ∷ 0x45 ∷ 0x44 ∷ 0x42 ∷ 0x49 ∷ 0x4F ∷ 9 ∷ 9 ∷ replicate 8 0) ≡ refuses 1 Header 0)
    -- 2: the version
    × (gives (redbin ++ (1 ∷ 1 ∷ replicate 8 0)) ≡ refuses 2 Header 6)
    × (gives (redbin ++ (3 ∷ 0 ∷ replicate 8 0)) ≡ refuses 2 Header 6)
    -- 3: the flags
    × (gives (redbin ++ (2 ∷ 1 ∷ replicate 8 0)) ≡ refuses 3 Header 7)
    × (gives (redbin ++ (2 ∷ 2 ∷ replicate 8 0)) ≡ refuses 3 Header 7)
    × (gives (redbin ++ (2 ∷ 5 ∷ replicate 8 0)) ≡ refuses 3 Header 7)
    × (gives (file_with (table [] []) 0 []) ≡ loads [])
    -- 4: fields that do not fit
    × (gives (redbin ++ (2 ∷ 4 ∷ replicate 8 0)) ≡ refuses 4 Symbols 16)
    × (gives (redbin ++ (2 ∷ 4 ∷ (replicate 8 0 ++ words (1 ∷ [])))) ≡ refuses 4 Symbols 20)
    × (gives (redbin ++ (2 ∷ 4 ∷ (replicate 8 0 ++ words (2 ∷ 8 ∷ 0 ∷ [])))) ≡ refuses 4 Symbols 24)
    × (gives (redbin ++ (2 ∷ 4 ∷ (replicate 8 0 ++ words (1 ∷ 8 ∷ 9 ∷ 0x61 ∷ [])))) ≡ refuses 4 Symbols 28)
    × (gives (redbin ++ (2 ∷ 0 ∷ words (0 ∷ 1 ∷ []))) ≡ refuses 4 Header 12)
    × (gives (lone []) ≡ refuses 4 Record 16)
    × (gives (file 1 (3 ∷ 0 ∷ 0 ∷ [])) ≡ refuses 4 Record 16)
    × (gives (lone (0x04 ∷ [])) ≡ refuses 4 Record 20)
    × (gives (lone (0x0A ∷ [])) ≡ refuses 4 Record 20)
    × (gives (lone (0x0B ∷ [])) ≡ refuses 4 Record 20)
    × (gives (lone (0 ∷ 0x0C ∷ 0 ∷ [])) ≡ refuses 4 Record 24)
    × (gives (lone (0x107 ∷ [])) ≡ refuses 4 Record 20)
    × (gives (lone (0x107 ∷ 0 ∷ [])) ≡ refuses 4 Record 24)
    × (gives (string 0x107 2 (0x61 ∷ [])) ≡ refuses 4 Record 28)
    × (gives (string 0x107 2 (0x61 ∷ 0x62 ∷ 9 ∷ [])) ≡ refuses 4 Record 30)
    × (gives (lone (0x05 ∷ [])) ≡ refuses 4 Record 20)
    × (gives (lone (0x05 ∷ 0 ∷ [])) ≡ refuses 4 Record 24)
    × (gives (lone (0x05 ∷ 0 ∷ 1 ∷ [])) ≡ refuses 4 Record 28)
    × (gives (lone (0x20 ∷ [])) ≡ refuses 4 Record 20)
    × (gives (lone (0x20 ∷ 0 ∷ [])) ≡ refuses 4 Record 24)
    × (gives (lone (0x20 ∷ 0 ∷ 0 ∷ [])) ≡ refuses 4 Record 28)
    × (gives (lone (0x20 ∷ 0 ∷ 0 ∷ 0 ∷ [])) ≡ refuses 4 Record 32)
    × (gives (lone (0x20 ∷ 0 ∷ 0 ∷ 0 ∷ 0x0800000E ∷ [])) ≡ refuses 4 Record 36)
    × (gives (lone (0x20 ∷ 0 ∷ 0 ∷ 0 ∷ 0x0800000E ∷ 2 ∷ 9 ∷ [])) ≡ refuses 4 Record 40)
    × (gives (lone (0x80005 ∷ [])) ≡ refuses 4 Record 20)
    × (gives (lone (0x80020 ∷ [])) ≡ refuses 4 Reference 20)
    × (gives (lone (0x80107 ∷ 0 ∷ [])) ≡ refuses 4 Reference 24)
    × (gives (lone (0x80005 ∷ 0 ∷ 0xFF ∷ [])) ≡ refuses 4 Reference 28)
    × (gives (lone (0x80005 ∷ 0 ∷ 0xFF ∷ 2 ∷ 0xFFFFFFFF ∷ [])) ≡ refuses 4 Reference 32)
    -- 5: numbers that are too large, and the largest that are not
    × (gives (redbin ++ (2 ∷ 0 ∷ words (0x80000000 ∷ 0xFFFFFFFF ∷ []))) ≡ refuses 5 Header 8)
    × (gives (redbin ++ (2 ∷ 0 ∷ words (0x7FFFFFFF ∷ 0 ∷ []))) ≡ refuses 4 Record 16)
    × (gives (redbin ++ (2 ∷ 0 ∷ words (0 ∷ 0x80000000 ∷ []))) ≡ refuses 5 Header 12)
    × (gives (redbin ++ (2 ∷ 0 ∷ words (0 ∷ 0x7FFFFFFF ∷ []))) ≡ refuses 4 Header 12)
    × (gives (file_with (words (0x80000000 ∷ [])) 0 []) ≡ refuses 5 Symbols 16)
    × (gives (file_with (words (0x7FFFFFFF ∷ 0 ∷ [])) 0 []) ≡ refuses 4 Symbols 24)
    × (gives (file_with (words (0 ∷ 0x80000000 ∷ [])) 0 []) ≡ refuses 5 Symbols 20)
    × (gives (file_with (words (0 ∷ 0x7FFFFFFF ∷ [])) 0 []) ≡ refuses 4 Symbols 24)
    × (gives (lone (0x05 ∷ 0x80000000 ∷ 0 ∷ [])) ≡ refuses 5 Record 20)
    × (gives (lone (0x05 ∷ 0x7FFFFFFF ∷ 0 ∷ [])) ≡ loads (steps (plain (open' (OfList Block 0x7FFFFFFF)) ∷ close ∷ [])))
    × (gives (lone (0x05 ∷ 0 ∷ 0x80000000 ∷ [])) ≡ refuses 5 Record 24)
    × (gives (lone (0x05 ∷ 0 ∷ 0x7FFFFFFF ∷ [])) ≡ refuses 4 Record 28)
    × (gives (lone (0x107 ∷ 0x80000000 ∷ 0 ∷ [])) ≡ refuses 5 Record 20)
    × (gives (lone (0x107 ∷ 0x7FFFFFFF ∷ 0 ∷ [])) ≡ loads (steps (plain (put (text String 0x7FFFFFFF [])) ∷ [])))
    × (gives (lone (0x107 ∷ 0 ∷ 0x1000000 ∷ [])) ≡ refuses 5 Record 24)
    × (gives (lone (0x107 ∷ 0 ∷ 0xFFFFFF ∷ [])) ≡ refuses 4 Record 28)
    × (gives (lone (0x20 ∷ 0x80000000 ∷ 0 ∷ 0 ∷ 0x0800000E ∷ 0 ∷ [])) ≡ refuses 5 Record 20)
    × (gives (lone (0x20 ∷ 0x7FFFFFFF ∷ 0xFFFFFFFF ∷ 0x7FFFFFFF ∷ 0x0800000E ∷ 0 ∷ []))
    ≡ loads (steps (plain (open' (OfObject false false 0x7FFFFFFF 0xFFFFFFFF 0x7FFFFFFF)) ∷ close ∷ [])))
    × (gives (lone (0x20 ∷ 0 ∷ 0 ∷ 0x80000000 ∷ 0x0800000E ∷ 0 ∷ [])) ≡ refuses 5 Record 28)
    × (gives (lone (0x20 ∷ 0 ∷ 0 ∷ 0 ∷ 0x0800000E ∷ 0x80000000 ∷ [])) ≡ refuses 5 Record 36)
    × (gives (lone (0x20 ∷ 0 ∷ 0 ∷ 0 ∷ 0x0800000E ∷ 0x7FFFFFFF ∷ [])) ≡ refuses 4 Record 40)
    × (gives (lone (0x80005 ∷ 0x80000000 ∷ 0xFF ∷ 0 ∷ [])) ≡ refuses 5 Record 20)
    × (gives (lone (0x80107 ∷ 0x80000000 ∷ 0xFF ∷ 0 ∷ [])) ≡ refuses 5 Record 20)
    × (gives (lone (0x80005 ∷ 0 ∷ 0xFF ∷ 0x80000000 ∷ [])) ≡ refuses 5 Reference 28)
    × (gives (lone (0x80005 ∷ 0 ∷ 0xFF ∷ 0x7FFFFFFF ∷ [])) ≡ refuses 4 Reference 32)
    × (gives (lone (0x80005 ∷ 0 ∷ 0xFF ∷ 2 ∷ 0 ∷ 0x80000000 ∷ [])) ≡ refuses 5 Reference 36)
    × (gives (lone (0x80005 ∷ 0 ∷ 0xFF ∷ 2 ∷ 0 ∷ 0x7FFFFFFF ∷ [])) ≡ refuses 11 Reference 24)
    -- 5: a file of more than 1,048,576 bytes, behind the version and the flags
    × (gives (long 2 0 1048561) ≡ refuses 5 Header 0)
    × (gives (long 2 0 1048560) ≡ refuses 6 Header 12)
    × (gives (long 1 0 1048561) ≡ refuses 2 Header 6)
    × (gives (long 2 1 1048561) ≡ refuses 3 Header 7)
    -- 6: bytes left over
    × (gives (redbin ++ (2 ∷ 0 ∷ (words (0 ∷ 0 ∷ []) ++ 0 ∷ []))) ≡ refuses 6 Header 12)
    × (gives (file 1 (words (3 ∷ 3 ∷ []))) ≡ refuses 6 Record 20)
    × (gives (file 0 (0 ∷ [])) ≡ refuses 6 Record 16)
    -- 7: names among the strings
    × (gives (one_named (table (0 ∷ []) (0x61 ∷ 0 ∷ [])) 0) ≡ one_none a)
    × (gives (one_named (table (0 ∷ []) (0x61 ∷ [])) 0) ≡ refuses 7 Symbols 24)
    × (gives (one_named (table (1 ∷ []) (0x61 ∷ 0 ∷ [])) 0) ≡ refuses 7 Symbols 24)
    × (gives (one_named (table (2 ∷ []) (0x61 ∷ 0 ∷ [])) 0) ≡ refuses 7 Symbols 24)
    × (gives (one_named (table (0 ∷ 0xFFFFFFFF ∷ []) (0x61 ∷ 0 ∷ [])) 0) ≡ refuses 7 Symbols 28)
    × (gives (one_named (table (9 ∷ 9 ∷ []) (0x61 ∷ 0 ∷ [])) 0) ≡ refuses 7 Symbols 24)
    × (gives (one_named (table (0 ∷ []) (0x80 ∷ 0 ∷ [])) 0) ≡ refuses 7 Symbols 24)
    × (gives (one_named (table (0 ∷ []) (0xC3 ∷ 0xA9 ∷ 0 ∷ [])) 0) ≡ one_none (0xC3 ∷ 0xA9 ∷ []))
    × (gives (one_named (table (0 ∷ []) (replicate 255 0x61 ++ 0 ∷ [])) 0) ≡ one_none (replicate 255 0x61))
    × (gives (one_named (table (0 ∷ []) (replicate 256 0x61 ++ 0 ∷ [])) 0) ≡ refuses 7 Symbols 24)
    × (gives (redbin ++ (2 ∷ 4 ∷ (words (0 ∷ 9 ∷ []) ++ table (0 ∷ []) (0 ∷ [])))) ≡ refuses 7 Symbols 24)
    -- names that are not used, are repeated or overlap, and bytes of no name
    × (gives (one_named (table (4 ∷ 0 ∷ 1 ∷ 0 ∷ []) (0x62 ∷ 0x61 ∷ 0 ∷ 0x80 ∷ 0x63 ∷ 0 ∷ [])) 2) ≡ one_none a)
    -- 8: types
    × (gives (lone (0x01 ∷ [])) ≡ refuses 8 Record 16)
    × (gives (lone (0x02 ∷ [])) ≡ refuses 8 Record 16)
    × (gives (lone (0x0D ∷ [])) ≡ refuses 8 Record 16)
    × (gives (lone (0x18 ∷ [])) ≡ refuses 8 Record 16)
    × (gives (lone (0x1D ∷ [])) ≡ refuses 8 Record 16)
    × (gives (lone (0x21 ∷ [])) ≡ refuses 8 Record 16)
    × (gives (lone (0x0800000E ∷ 0 ∷ [])) ≡ refuses 8 Record 16)
    × (gives (lone (0xFF ∷ 0 ∷ [])) ≡ refuses 8 Record 16)
    × (gives (lone (0 ∷ [])) ≡ refuses 8 Record 16)
    × (gives (lone (0x80000000 ∷ 3 ∷ [])) ≡ refuses 8 Record 16)
    × (gives (file 1 (words (0 ∷ []) ++ (0x0C ∷ 0 ∷ 0 ∷ []))) ≡ refuses 8 Record 16)
    × (gives (lone (0x20 ∷ 0 ∷ 0 ∷ 0 ∷ 0x03 ∷ [])) ≡ refuses 8 Record 32)
    × (gives (lone (0x80005 ∷ 0 ∷ 0x05 ∷ [])) ≡ refuses 8 Reference 24)
    -- 9: bits
    × (gives (lone (0x103 ∷ [])) ≡ refuses 9 Record 16)
    × (gives (lone (0x40000003 ∷ [])) ≡ refuses 9 Record 16)
    × (gives (lone (0x80004 ∷ 0 ∷ [])) ≡ refuses 9 Record 16)
    × (gives (lone (0x07 ∷ 0 ∷ 0 ∷ [])) ≡ refuses 9 Record 16)
    × (gives (lone (0x307 ∷ 0 ∷ 0 ∷ [])) ≡ refuses 9 Record 16)
    × (gives (lone (0x80007 ∷ 0 ∷ 0xFF ∷ 0 ∷ [])) ≡ refuses 9 Record 16)
    × (gives (lone (0x80307 ∷ 0 ∷ 0xFF ∷ 0 ∷ [])) ≡ refuses 9 Record 16)
    × (gives (lone (0x105 ∷ 0 ∷ 0 ∷ [])) ≡ refuses 9 Record 16)
    × (gives (lone (0x80105 ∷ 0 ∷ 0xFF ∷ 0 ∷ [])) ≡ refuses 9 Record 16)
    × (gives (lone (0x02000020 ∷ 0 ∷ 0 ∷ 0 ∷ 0x0800000E ∷ 0 ∷ [])) ≡ refuses 9 Record 16)
    × (gives (lone (0x01000005 ∷ 0 ∷ 0 ∷ [])) ≡ refuses 9 Record 16)
    × (gives (lone (0x100 ∷ 0x0C ∷ 0 ∷ 0 ∷ [])) ≡ refuses 9 Record 16)
    × (gives (lone (0x80000000 ∷ 0x0C ∷ 0 ∷ 0 ∷ [])) ≡ refuses 9 Record 16)
    × (gives (lone (0 ∷ 0x10C ∷ 0 ∷ 0 ∷ [])) ≡ refuses 9 Record 20)
    × (gives (lone (0x20 ∷ 0 ∷ 0 ∷ 0 ∷ 0x0E ∷ 0 ∷ [])) ≡ refuses 9 Record 32)
    × (gives (lone (0x20 ∷ 0 ∷ 0 ∷ 0 ∷ 0x0400000E ∷ 0 ∷ [])) ≡ refuses 9 Record 32)
    × (gives (lone (0x20 ∷ 0 ∷ 0 ∷ 0 ∷ 0x8800000E ∷ 0 ∷ [])) ≡ refuses 9 Record 32)
    × (gives (lone (0x20 ∷ 0 ∷ 0 ∷ 0 ∷ 0x0800010E ∷ 0 ∷ [])) ≡ refuses 9 Record 32)
    × (gives (lone (0x20 ∷ 0 ∷ 0 ∷ 0 ∷ 0x0E ∷ [])) ≡ refuses 9 Record 32)
    × (gives (lone (0x80005 ∷ 0 ∷ 0x1FF ∷ 0 ∷ [])) ≡ refuses 9 Reference 24)
    × (gives (lone (0x80005 ∷ 0 ∷ 0x800000FF ∷ 0 ∷ [])) ≡ refuses 9 Reference 24)
    × (gives (lone (0x80005 ∷ 0 ∷ 0x1FF ∷ [])) ≡ refuses 9 Reference 24)
    -- 10: contents
    × (gives (lone (0x04 ∷ 2 ∷ [])) ≡ refuses 10 Record 20)
    × (gives (lone (0x0A ∷ 0x110000 ∷ [])) ≡ refuses 10 Record 20)
    × (gives (lone (0x0A ∷ 0xD800 ∷ [])) ≡ loads (steps (plain (put (char 0xD800)) ∷ [])))
    × (gives (lone (0x407 ∷ 0 ∷ 2 ∷ 0x10FFFF ∷ 0x110000 ∷ [])) ≡ refuses 10 Record 32)
    × (gives (lone (0x407 ∷ 0 ∷ 1 ∷ 0x61 ∷ [])) ≡ loads (steps (plain (put (text String 0 (0x61 ∷ []))) ∷ [])))
    × (gives (string 0x107 2 (0x61 ∷ 0x62 ∷ 0 ∷ 1 ∷ [])) ≡ refuses 10 Record 31)
    × (gives (string 0x207 1 (0x61 ∷ 0 ∷ 1 ∷ 1 ∷ [])) ≡ refuses 10 Record 30)
    × (gives (lone (0x0C ∷ [])) ≡ refuses 10 Record 20)
    × (gives (lone (0x0C ∷ 0 ∷ 0 ∷ [])) ≡ refuses 10 Record 20)
    × (gives (file 2 (words (3 ∷ 0 ∷ 0x0C ∷ 0 ∷ 0 ∷ []))) ≡ refuses 10 Record 28)
    × (gives (file_with (table [] (9 ∷ [])) 1 (words (0 ∷ 0x0C ∷ 0xFFFFFFFF ∷ 0xFFFFFFFF ∷ []))) ≡ loads (steps (plain (put (float 0xFFFFFFFFFFFFFFFF)) ∷ [])))
    -- 11: paths
    × (gives (holds 0) ≡ loads holds_itself)
    × (gives (holds 1) ≡ refuses 11 Reference 36)
    × (gives (lone (0x80005 ∷ 0 ∷ 0xFF ∷ 0 ∷ [])) ≡ refuses 11 Reference 24)
    × (gives (lone (0x80020 ∷ 0xFF ∷ 1 ∷ 0 ∷ [])) ≡ refuses 11 Reference 20)
    × (gives (file 2 (words (0x05 ∷ 0 ∷ 0 ∷ 0x80107 ∷ 0 ∷ 0xFF ∷ 1 ∷ 0 ∷ []))) ≡ refuses 11 Reference 36)
    × (gives (file 2 (words (0x03 ∷ 0x80005 ∷ 0 ∷ 0xFF ∷ 1 ∷ 0 ∷ []))) ≡ refuses 11 Reference 28)
    × (gives (file 2 (words (0x107 ∷ 0 ∷ 0 ∷ 0x80409 ∷ 5 ∷ 0xFF ∷ 1 ∷ 0 ∷ [])))
    ≡ loads (steps (plain (put (text String 0 [])) ∷ plain (share (ShareText Url 5) (At 0)) ∷ [])))
    × (gives (shared_twice (0 ∷ 0 ∷ [])) ≡ shares_of 1)
    × (gives (shared_twice (1 ∷ 0 ∷ [])) ≡ shares_of 1)
    × (gives (shared_twice (1 ∷ [])) ≡ shares_of 0)
    × (gives (shared_twice (1 ∷ 1 ∷ [])) ≡ refuses 11 Reference 68)
    × (gives (shared_twice (2 ∷ [])) ≡ refuses 11 Reference 68)
    × (gives (file 3 (words (0 ∷ 0x0C ∷ 0 ∷ 0 ∷ 0x05 ∷ 0 ∷ 0 ∷ 0x80005 ∷ 0 ∷ 0xFF ∷ 1 ∷ 1 ∷ [])))
    ≡ loads (steps (plain (put (float 0)) ∷ block ∷ close ∷ plain (share (ShareList Block 0) (At 1)) ∷ [])))
    -- 12: symbol indexes
    × (gives (one_named (table (0 ∷ []) (0x61 ∷ 0 ∷ [])) 1) ≡ refuses 12 Record 54)
    × (gives (lone (0x20 ∷ 0 ∷ 0 ∷ 0 ∷ 0x0800000E ∷ 1 ∷ 0 ∷ 3 ∷ [])) ≡ refuses 12 Record 40)
    -- 13: the depth, behind the header and before the fields
    × (gives (file 1 (nest 32)) ≡ loads (replicate 32 close ++ opens 32 []))
    × (gives (file 1 (nest 33)) ≡ refuses 13 Record 400)
    × (gives (deep (0x04 ∷ [])) ≡ refuses 13 Record 400)
    × (gives (deep (0x80005 ∷ [])) ≡ refuses 13 Record 400)
    × (gives (deep (0 ∷ 0x0C ∷ [])) ≡ refuses 13 Record 404)
    × (gives (deep (0x01 ∷ [])) ≡ refuses 8 Record 400)
    × (gives (deep (0x104 ∷ [])) ≡ refuses 9 Record 400)
    × (gives (deep []) ≡ refuses 4 Record 400)
    -- 14: memory, behind a put's or share's fields, before a list's values and an object's context
    × (gives_in 0 0 0 (lone (0x03 ∷ [])) ≡ refuses 14 Record 16)
    × (gives_in 1 0 0 (lone (0x03 ∷ [])) ≡ loads (steps (plain (put none) ∷ [])))
    × (gives_in 0 0 0 (lone (0 ∷ 0x0C ∷ 0 ∷ 0 ∷ [])) ≡ refuses 14 Record 20)
    × (gives_in 1 1 0 (string 0x107 2 (0x61 ∷ 0x62 ∷ 0 ∷ 0 ∷ [])) ≡ refuses 14 Record 16)
    × (gives_in 1 1 0 (string 0x107 2 (0x61 ∷ 0x62 ∷ 0 ∷ 1 ∷ [])) ≡ refuses 10 Record 31)
    × (gives_in 1 2 0 (string 0x107 2 (0x61 ∷ 0x62 ∷ 0 ∷ 0 ∷ [])) ≡ loads (steps (plain (put (text String 0 (0x61 ∷ 0x62 ∷ []))) ∷ [])))
    × (gives_in 0 0 0 (lone (0x05 ∷ 0 ∷ [])) ≡ refuses 4 Record 24)
    × (gives_in 0 0 0 (lone (0x05 ∷ 0 ∷ 1 ∷ [])) ≡ refuses 14 Record 16)
    × (gives_in 1 0 0 (lone (0x05 ∷ 0 ∷ 1 ∷ [])) ≡ refuses 4 Record 28)
    × (gives_in 0 0 0 (lone (0x20 ∷ 0 ∷ 0 ∷ [])) ≡ refuses 4 Record 28)
    × (gives_in 0 0 0 (lone (0x20 ∷ 0 ∷ 0 ∷ 0x80000000 ∷ [])) ≡ refuses 5 Record 28)
    × (gives_in 0 0 0 (lone (0x20 ∷ 0 ∷ 0 ∷ 0 ∷ 0x03 ∷ [])) ≡ refuses 14 Record 16)
    × (gives_in 1 0 0 (lone (0x20 ∷ 0 ∷ 0 ∷ 0 ∷ 0x03 ∷ [])) ≡ refuses 8 Record 32)
    × (gives_in 2 0 0 (one_named (table (0 ∷ []) (0x61 ∷ 0 ∷ [])) 0) ≡ refuses 14 Record 58)
    × (gives_in 2 0 1 (one_named (table (0 ∷ []) (0x61 ∷ 0 ∷ [])) 0) ≡ one_none a)
    × (gives_in 1 0 0 (holds 0) ≡ refuses 14 Record 28)
    × (gives_in 1 0 0 (holds 1) ≡ refuses 11 Reference 36)
    -- 15: steps stand
    × (outcome (load limit (steps (plain (put none) ∷ [])) []) ≡ refuses 15 Draft 0)
    × (outcome (load limit holds_itself (holds 0)) ≡ refuses 15 Draft 0)
