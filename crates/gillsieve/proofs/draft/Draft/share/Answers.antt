use Rattle.std.proofs.Common.{sym, ap}
use Rattle.gillsieve.specs.Events.{answered}
use Rattle.gillsieve.proofs.Calls.{answered_err, did_begin}
use Rattle.gillsieve.proofs.draft.Draft.share.Goals as goal

pub returns-in_err-share : goal.returns-in_err-share
returns-in_err-share c =
    did_begin _ _ _ _ c.share.result c.from_residual.result (answered_err c.share.result c.from_residual.result _ c.in_err-share.was c.from_residual.ensures.1) c.share.ensures

pub returns : goal.returns
returns c = did_begin _ _ _ _ c.share.result _ (sym (ap answered c.in_ok-share.was)) c.share.ensures
