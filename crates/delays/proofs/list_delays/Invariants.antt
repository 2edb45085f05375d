use Rattle.steps.specs.Outline.{values}
use Rattle.document.specs.Standing.{standing}
use Rattle.listing.specs.Listings.{AddedAll}
use Rattle.delays.specs.Delays.{delays, oldest}
use Rattle.delays.proofs.list_delays.Given as goal

-- the delays so far were added
abbrev pub invariant-loop-number : goal.invariant-loop-number
invariant-loop-number g l = AddedAll g.L.Listing.meaning g.L.Listing.holds g.L.Listing.leaves l.initial.listing (delays (oldest l.number (values (standing l.store)))) l.listing
