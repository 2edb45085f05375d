use Rattle.std.proofs.Common.{sym, ap}
use Rattle.gillsieve.specs.Events.{answered}
use Rattle.gillsieve.proofs.Calls.{answered_err, did_begin}
use Rattle.gillsieve.proofs.draft.Draft.put.Goals as goal

pub returns-in_err-put : goal.returns-in_err-put
returns-in_err-put c =
    did_begin _ _ _ _ c.put.result c.from_residual.result (answered_err c.put.result c.from_residual.result _ c.in_err-put.was c.from_residual.ensures.1) c.put.ensures

pub returns : goal.returns
returns c = did_begin _ _ _ _ c.put.result _ (sym (ap answered c.in_ok-put.was)) c.put.ensures
