use Rattle.std.proofs.Common.{sym, ap}
use Rattle.gillsieve.specs.Events.{answered}
use Rattle.gillsieve.proofs.Calls.{did_close}
use Rattle.gillsieve.proofs.draft.Draft.close.Goals as goal

pub returns : goal.returns
returns c = did_close _ _ c.close.result _ (sym (ap answered c.in_ok-close.was)) c.close.ensures
