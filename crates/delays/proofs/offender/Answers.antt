use Rattle.std.proofs.Common.{◌∙◌, arith, rules}
use Rattle.std.proofs.lemmas.Iterator.{YieldsList-from_range}
use Rattle.std.proofs.lemmas.Iterator.Search.{find_from_yields_List}
use Rattle.steps.specs.Outline.{values}
use Rattle.document.specs.Standing.{standing}
use Rattle.delays.specs.Delays.{offends_at}
use Rattle.delays.proofs.Oldest.{mapped_same, offender_range}
use Rattle.delays.proofs.offender.Goals as goal

pub returns : goal.returns
returns c =
    let xs = values (standing c.args.store.now) in
    mapped_same c.find.result
    ∙ find_from_yields_List (offends_at xs) _ _ c.find.result c.find.ensures.ran (YieldsList-from_range 0 c.count.result c.count.result (cc) (omega arith)) (λ x b q k. search rules)
    ∙ offender_range xs c.count.result c.count.ensures
