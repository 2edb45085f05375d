-- What the entries are that are read from a list of delays.
use Rattle.std.specs.Prelude.{◌≡◌, ◌≤◌, true, List, length}
use Rattle.std.specs.List.{AllByRecursion}
use Rattle.listing.specs.declared.pairs.Entry.{Entry}
use Rattle.listing.specs.Pairs.{pair_of, good}

-- at most 16,384 good pairs
abbrev pub Listable : List Entry → Type 0
Listable es = (length es ≤ 16384) × AllByRecursion (λ e. good (pair_of e) ≡ true) es
