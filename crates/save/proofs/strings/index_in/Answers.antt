use Rattle.std.proofs.Common.{not, map, ◌∙◌, rules, tests}
use Rattle.std.proofs.lemmas.Iterator.Search.{YieldsList-from_take_while}
use Rattle.std.proofs.lemmas.Iterator.Consumers.{YieldsList-at, count_from_yields_List}
use Rattle.std.proofs.lemmas.List.Folds.{length-prefix_len}
use Rattle.redbin.specs.Canonical.{stored}
use Rattle.save.proofs.Stored.{strings_yield, begins, index_is}
use Rattle.save.proofs.strings.index_in.Goals as goal

pub returns : goal.returns
returns c = λ names e k z.
    count_from_yields_List {v = λ x. x.now} _ _ c.count.ensures.ran (YieldsList-from_take_while _ (λ xs. not (begins xs c.args.name.now)) (YieldsList-at c.take_while.ensures.source (strings_yield (λ s. s.0.now) _ names e k)) c.take_while.ensures.closure c.take_while.ensures.done (λ x b q h. search (rules, tests)))
    ∙ length-prefix_len _ (map stored names) ∙ index_is names c.args.name.now k z
