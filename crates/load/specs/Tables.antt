-- The names of a symbol table.
use Rattle.std.specs.Prelude.{ℕ, Bool, true, false, List, [], ◌∷◌, map, Some, None, Option}
use Rattle.steps.specs.Steps.{Name}
use Rattle.redbin.specs.Bytes.{number}
use Rattle.redbin.specs.Reading.{name_at}
use Rattle.load.specs.declared.symbols.Symbols.{Symbols}

abbrev pub is_some : Option Name → Bool
is_some None = false
is_some (Some n) = true

abbrev pub or_empty : Option Name → Name
or_empty None = []
or_empty (Some n) = n

-- the names to which offsets lead
unfoldable pub names_of : List ℕ → List ℕ → List Name
names_of strings [] = []
names_of strings (o ∷ os) = or_empty (name_at strings o) ∷ names_of strings os

-- the names of a symbol table
abbrev pub table_of : Symbols → List Name
table_of s = names_of s.strings.now (map number s.offsets.now)
