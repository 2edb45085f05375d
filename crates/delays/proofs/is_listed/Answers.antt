use Rattle.std.proofs.Common.{◌∙◌, arith, rules}
use Rattle.std.proofs.lemmas.Iterator.{YieldsList-from_range}
use Rattle.std.proofs.lemmas.Iterator.Search.{any_from_yields_List}
use Rattle.steps.specs.Outline.{values}
use Rattle.document.specs.Standing.{standing}
use Rattle.delays.proofs.Names.{named_at, listed_range}
use Rattle.delays.proofs.is_listed.Goals as goal

pub returns : goal.returns
returns c =
    let xs = values (standing c.args.store.now) in
    any_from_yields_List (named_at c.args.name.now xs) _ _ c.any.result c.any.ensures.ran (YieldsList-from_range 0 c.args.end c.args.end (cc) (omega arith)) (λ x b q k. search rules)
    ∙ listed_range c.args.name.now xs c.args.end
