use Rattle.std.proofs.Common.{sym, ap}
use Rattle.gillsieve.specs.Events.{answered}
use Rattle.gillsieve.proofs.Calls.{did_take_back}
use Rattle.gillsieve.proofs.draft.Draft.take_back.Goals as goal

pub returns : goal.returns
returns c = did_take_back _ _ c.take_back.result _ (sym (ap answered c.in_ok-take_back.was)) c.take_back.ensures
