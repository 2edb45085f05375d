use Rattle.gillsieve.proofs.Promised.{both_printed}
use Rattle.gillsieve.proofs.promise.print_both.Goals as goal

pub returns : goal.returns
returns g c =
    both_printed g.A.Listing.meaning g.B.Listing.meaning c.histories_keep_promise.ensures c.args.draft.now _ _ _ _ c.print-2.result c.in_ok-print.ensures.did c.print-2.ensures.did
