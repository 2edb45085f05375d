use Rattle.std.proofs.Common.{sym, refl}
use Rattle.std.proofs.lemmas.Result.{err_from_is_err_and}
use Rattle.steps.specs.Given.{tag}
use Rattle.load.proofs.Sharing.{place_stops, count_stops, path_stops, share_lost, share_found}
use Rattle.load.proofs.filler.Filler.add_share.Goals as goal

pub returns-in_err-place : goal.returns-in_err-place
returns-in_err-place c =
    let p = err_from_is_err_and c.from_residual.result c.from_residual.ensures.1 in
    rw (p.1, p.2) (record { filled = place_stops c.args.self.now.reader c.args.self.now.store.now c.args.start.place (tag c.args.start.label) c.args.share _ _ c.in_err-place.ensures; lent = refl })

pub returns-in_err-count : goal.returns-in_err-count
returns-in_err-count c =
    let p = err_from_is_err_and c.from_residual-in_err-count.result c.from_residual-in_err-count.ensures.1 in
    rw (p.1, p.2) (record { filled = count_stops c.args.self.now.reader c.args.self.now.store.now c.args.start.place (tag c.args.start.label) c.args.share _ _ c.in_ok-place.ensures _ _ c.in_err-count.ensures; lent = refl })

pub returns-in_err-path : goal.returns-in_err-path
returns-in_err-path c =
    let p = err_from_is_err_and c.from_residual-in_err-path.result c.from_residual-in_err-path.ensures.1 in
    rw (p.1, p.2) (record { filled = path_stops c.args.self.now.reader c.args.self.now.store.now c.args.start.place (tag c.args.start.label) c.args.share _ _ c.in_ok-place.ensures _ _ c.in_ok-count.ensures _ _ c.in_err-path.ensures.did; lent = refl })

pub returns-in_default : goal.returns-in_default
returns-in_default c =
    let h = rw c.family.ensures at c.in_default.ensures in
    rw c.at.ensures (record { filled = share_lost c.args.self.now.reader c.args.self.now.store.now c.args.start.place (tag c.args.start.label) c.args.share _ _ c.in_ok-place.ensures _ _ c.in_ok-count.ensures _ _ c.in_ok-path.ensures.did (sym h); lent = refl })

pub returns : goal.returns
returns c =
    let h = rw c.family.ensures at c.in-Some.ensures in
    record { filled = share_found c.args.self.now.reader c.args.self.now.store.now c.args.start.place (tag c.args.start.label) c.args.share _ _ c.in_ok-place.ensures _ _ c.in_ok-count.ensures _ _ c.in_ok-path.ensures.did _ c.in-Some.target _ (sym h) c.add_shared.ensures; lent = refl }
