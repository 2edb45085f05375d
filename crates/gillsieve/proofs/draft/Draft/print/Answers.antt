use Rattle.std.proofs.Common.{sym, ap}
use Rattle.gillsieve.specs.Drafts.{steps_of}
use Rattle.gillsieve.specs.Events.{answered}
use Rattle.gillsieve.proofs.Calls.{answered_err}
use Rattle.gillsieve.proofs.Printing.{Giving, print_did, print_listed}
use Rattle.gillsieve.proofs.draft.Draft.print.Goals as goal

pub returns-in_err-given : goal.returns-in_err-given
returns-in_err-given g c =
    let l = g.L.Listing in
    let d = c.args.self.now in
    let s = c.args.listing.now in
    let t = c.list_delays-given.new.listing in
    let r = c.list_delays-given.result in
    let q = c.from_residual.result in
    let given : Giving l.meaning l.holds l.leaves (steps_of d) s t r q =
    record { shut = sym c.if-has_open.ensures; tuning = sym c.in_default.ensures; gave = c.list_delays-given.ensures; answers = answered_err r q _ c.in_err-given.was c.from_residual.ensures.1 } in
    record { did = print_did l.meaning l.holds l.leaves d s t r q given; listed = print_listed l.meaning l.holds l.leaves (steps_of d) s t r q given }

pub returns : goal.returns
returns g c =
    let l = g.L.Listing in
    let d = c.args.self.now in
    let s = c.args.listing.now in
    let t = c.list_delays-given.new.listing in
    let r = c.list_delays-given.result in
    let given : Giving l.meaning l.holds l.leaves (steps_of d) s t r _ =
    record { shut = sym c.if-has_open.ensures; tuning = sym c.in_default.ensures; gave = c.list_delays-given.ensures; answers = sym (ap answered c.in_ok-given.was) } in
    record { did = print_did l.meaning l.holds l.leaves d s t r _ given; listed = print_listed l.meaning l.holds l.leaves (steps_of d) s t r _ given }
