-- The setting of a file's records, and how lists and objects start.
use Rattle.std.specs.Prelude.{ℕ, Bool, List, [], length, replicate}
use Rattle.refusal.specs.declared.Reason.TheVariants.{BadIndex}
use Rattle.refusal.specs.declared.Part.TheVariants.{Record}
use Rattle.steps.specs.declared.parts.Holder.{Holder}
use Rattle.steps.specs.declared.parts.Holder.TheVariants.{List as OfList, Object as OfObject}
use Rattle.steps.specs.declared.parts.ListKind.{ListKind}
use Rattle.steps.specs.Steps.{Name, Tag}
use Rattle.redbin.specs.Reading.{Setting, Reads, word, any_word, run, room, bare, hold, named_by, return, ◌>>=◌, ◌>>◌}
use Rattle.load.specs.Holders.{context}
use Rattle.load.specs.Tables.{table_of}
use Rattle.load_file.specs.declared.scope.Scope.{Scope}
use Rattle.load_file.specs.declared.scope.Opening.{Opening}
use Rattle.load_file.specs.declared.scope.Fields.{Fields}
use Rattle.load_file.specs.Levels.{names_left}

-- the setting with the symbols and the payload of a scope
abbrev pub within : Scope → Setting → Setting
within k c = record { size = c.size; uses = c.uses; table = table_of k.symbols; payload = k.payload }

-- ---- how lists and objects start

-- a list or an object, and the names of its values
pub record Start : Type 0 where
  pub holder : Holder
  pub names : List Name

-- the start that is read from a file with these symbols
abbrev pub start_of : List Name → Opening → Start
start_of table o = record { holder = o.holder; names = names_left table o.level }

-- a list's head and length
abbrev pub list_start : ListKind → ℕ → Reads Start
list_start k size = do
  head ← word size Record
  n ← word size Record
  return (record { holder = OfList k head; names = replicate n [] })

-- an object's class, on-set and arity, and memory for it
abbrev pub object_start : Bool → ℕ → Tag → Setting → Reads Fields
object_start owner start l c = do
  class ← word c.size Record
  on_set ← any_word c.size Record
  arity ← word c.size Record
  room c start (bare l.name)
  return (record { owner = owner; class = class; on_set = on_set; arity = arity })

-- a context's header, its length and the symbols of its values
abbrev pub context_start : Fields → Setting → Reads Start
context_start f c = do
  self ← context c.size
  n ← word c.size Record
  is ← run c.size Record 4 (length c.table) BadIndex n
  return (record { holder = OfObject f.owner self f.class f.on_set f.arity; names = named_by c.table is })

-- memory for a list or an object, and then the values in it
abbrev pub held : Setting → (Name → Reads (Unit {0})) → ℕ → Tag → Start → Reads (Unit {0})
held c one start l s = do
  room c start (bare l.name)
  hold c.uses one l s.holder s.names
