-- The names of a document in the order in which their indexes stand in the payload.
use Rattle.std.specs.Prelude.{ℕ, Bool, not, List, [], map, filter, take, Some, None, Option}
use Rattle.std.specs.List.{list_any}
use Rattle.steps.specs.Steps.{Name}
use Rattle.steps.specs.Outline.{Entry, entry_at}
use Rattle.redbin.specs.Bytes.{same}
use Rattle.redbin.specs.Canonical.{names_if_object, written_names}

-- the names that a value adds, if there is one
abbrev pub names_if : List Entry → ℕ → Option Entry → List Name
names_if all n None = []
names_if all n (Some x) = names_if_object all n x.begun

abbrev pub names_at : List Entry → ℕ → List Name
names_at all n = names_if all n (entry_at all n)

-- the names whose indexes the payload has, in order
abbrev pub in_order : List Entry → List Name
in_order all = written_names all all

-- a name stands among names
abbrev pub listed : Name → List Name → Bool
listed n ms = list_any (λ m. same m n) ms

-- of names, each with how many stand before it, those that stand nowhere before
abbrev pub fresh : List Name → List (ℕ × Name) → List Name
fresh all ps = map (λ p. p.1) (filter (λ p. not (listed p.1 (take p.0 all))) ps)
