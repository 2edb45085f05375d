use Rattle.std.proofs.Common.{refl}
use Rattle.std.proofs.lemmas.Result.{err_from_is_err_and}
use Rattle.listing.specs.Pairs.{pair_of}
use Rattle.listing.proofs.Givings.{given_next, given_all, given_err}
use Rattle.listing.proofs.give_all.Goals as goal

pub returns-in_err-add : goal.returns-in_err-add
returns-in_err-add g c =
    let q = err_from_is_err_and c.from_residual.result c.from_residual.ensures.1 in
    let l = g.L.Listing in
    rw (q.1, q.2) (given_err l.meaning l.holds l.leaves pair_of c.args.entries.now (Unit {0}) c.loop-entry.entry-index _ _ _ _ _ _ c.loop-entry-test.true refl c.loop-entry.invariant c.in_err-add.ensures.same c.in_err-add.ensures.answer)

pub loop-entry-preserved : goal.loop-entry-preserved
loop-entry-preserved g c =
    let l = g.L.Listing in
    given_next l.meaning l.holds l.leaves pair_of c.args.entries.now c.loop-entry.entry-index _ _ _ _ _ c.loop-entry-test.true refl c.loop-entry.invariant c.in_ok-add.ensures.added

pub returns : goal.returns
returns g c =
    let l = g.L.Listing in
    given_all l.meaning l.holds l.leaves pair_of c.args.entries.now _ _ _ c.loop-entry-test.false c.loop-entry.invariant
