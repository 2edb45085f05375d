use Rattle.std.proofs.Common.{map, take}
use Rattle.listing.specs.Pairs.{pair_of}
use Rattle.listing.specs.Listings.{AddedAll}
use Rattle.listing.proofs.give_all.Given as goal

-- the entries so far were added
abbrev pub invariant-loop-entry : goal.invariant-loop-entry
invariant-loop-entry g l = AddedAll g.L.Listing.meaning g.L.Listing.holds g.L.Listing.leaves l.initial.listing (take l.entry-index (map pair_of l.entries)) l.listing
