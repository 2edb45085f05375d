-- Values by their number.
use Rattle.std.specs.Prelude.{ℕ, ◌+◌, ◌-◌, ◌<◌, List, [], map, filter, length, drop, Some, None, Option, unwrap_or}
use Rattle.std.specs.List.{range_with_len}
use Rattle.steps.specs.declared.parts.Node.{Node}
use Rattle.steps.specs.declared.parts.Node.TheVariants.{Root, At}
use Rattle.steps.specs.Steps.{Name}
use Rattle.steps.specs.Outline.{Entry, entry_at, holder_in, held_by, inner}

-- the first so many values
abbrev pub oldest : ℕ → List Entry → List Entry
oldest k xs = drop (length xs - k) xs

-- the name of a value, if there is one
abbrev pub name_in : Option Entry → Name
name_in None = []
name_in (Some x) = x.label.name

-- the names of values
abbrev pub names_of : List Entry → List ℕ → List Name
names_of xs ns = map (λ n. name_in (entry_at xs n)) ns

-- those of so many numbers from `low` on whose values a holder holds directly
abbrev pub inner_of : List Entry → Node → ℕ → ℕ → List ℕ
inner_of xs h low count = filter (λ n. held_by (entry_at xs n) h) (range_with_len low count)

-- what holds a node
abbrev pub above : List Entry → Node → Node
above xs Root = Root
above xs (At n) = unwrap_or (holder_in (entry_at xs n)) Root

-- how many values stand before this one in its holder
abbrev pub place_of : List Entry → ℕ → ℕ
place_of xs n = length (inner (oldest n xs) (above xs (At n)))

-- there is such a value
abbrev pub There : List Entry → Node → Type 0
There xs Root = Unit {0}
There xs (At n) = n < length xs

-- the first number that an inner value can have
abbrev pub first_inner : Node → ℕ
first_inner Root = 0
first_inner (At n) = n + 1
