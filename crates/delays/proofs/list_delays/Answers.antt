use Rattle.std.proofs.Common.{arith}
use Rattle.std.proofs.lemmas.Result.{err_from_is_err_and}
use Rattle.steps.specs.Outline.{values}
use Rattle.document.specs.Standing.{standing}
use Rattle.delays.proofs.Givings.{given_none, given_more, given_all, given_err}
use Rattle.delays.proofs.list_delays.Goals as goal

pub loop-number-init : goal.loop-number-init
loop-number-init g c =
    let l = g.L.Listing in
    given_none l.meaning l.holds l.leaves (values (standing c.args.store.now)) c.args.listing.now

pub returns-in_err-give_delay : goal.returns-in_err-give_delay
returns-in_err-give_delay g c =
    let q = err_from_is_err_and c.from_residual.result c.from_residual.ensures.1 in
    let l = g.L.Listing in
    rw (q.1, q.2) (given_err l.meaning l.holds l.leaves (values (standing c.args.store.now)) (Unit {0}) c.loop-number.number _ _ _ _ (omega (arith, c.count-number-end.ensures)) c.loop-number.invariant c.in_err-give_delay.ensures)

pub loop-number-preserved : goal.loop-number-preserved
loop-number-preserved g c =
    let l = g.L.Listing in
    given_more l.meaning l.holds l.leaves (values (standing c.args.store.now)) c.loop-number.number _ _ _ (omega (arith, c.count-number-end.ensures)) c.loop-number.invariant c.in_ok-give_delay.ensures

pub returns : goal.returns
returns g c =
    let l = g.L.Listing in
    given_all l.meaning l.holds l.leaves (values (standing c.args.store.now)) c.loop-number.number _ _ (omega (arith, c.count-number-end.ensures)) c.loop-number.invariant
