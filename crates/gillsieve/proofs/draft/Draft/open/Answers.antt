use Rattle.std.proofs.Common.{sym, ap}
use Rattle.gillsieve.specs.Events.{answered}
use Rattle.gillsieve.proofs.Calls.{answered_err, did_begin}
use Rattle.gillsieve.proofs.draft.Draft.open.Goals as goal

pub returns-in_err-open : goal.returns-in_err-open
returns-in_err-open c =
    did_begin _ _ _ _ c.open.result c.from_residual.result (answered_err c.open.result c.from_residual.result _ c.in_err-open.was c.from_residual.ensures.1) c.open.ensures

pub returns : goal.returns
returns c = did_begin _ _ _ _ c.open.result _ (sym (ap answered c.in_ok-open.was)) c.open.ensures
