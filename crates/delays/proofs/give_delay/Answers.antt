use Rattle.delays.proofs.Givings.{gave_one, gave_none}
use Rattle.delays.proofs.give_delay.Goals as goal

pub returns-in-Some : goal.returns-in-Some
returns-in-Some g c =
    let l = g.L.Listing in
    gave_one l.meaning l.holds l.leaves _ _ _ _ c.add.result c.in-Some.ensures c.add.ensures.answer c.add.ensures.added c.add.ensures.same

pub returns-in-None : goal.returns-in-None
returns-in-None g c =
    let l = g.L.Listing in
    gave_none l.meaning l.holds l.leaves _ _ c.in-None.ensures
