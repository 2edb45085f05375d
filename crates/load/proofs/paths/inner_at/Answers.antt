use Rattle.std.proofs.Common.{arith, rules}
use Rattle.std.proofs.lemmas.Iterator.{YieldsList-from_range}
use Rattle.std.proofs.lemmas.Iterator.Consumers.{YieldsList-from_filter, nth_from_yields_List}
use Rattle.steps.specs.Outline.{values}
use Rattle.document.specs.Standing.{standing}
use Rattle.load.proofs.Walked.{holds, nth_held}
use Rattle.load.proofs.paths.inner_at.Goals as goal

pub returns : goal.returns
returns c =
    let xs = values (standing c.args.store.now) in
    let n = c.count.result in
    nth_held xs c.args.holder n c.args.index c.nth.result c.count.ensures
    (nth_from_yields_List c.nth.result c.nth.new.self c.args.index c.nth.ensures.ran (YieldsList-from_filter _ (holds xs c.args.holder) (YieldsList-from_range 0 n n c.filter.ensures.source (omega arith)) c.filter.ensures.closure (λ x b q k. search rules)))
