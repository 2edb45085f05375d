use Rattle.std.proofs.Common.{ap, ◌∙◌}
use Rattle.steps.specs.Build.{count_in}
use Rattle.document.proofs.Reading.{begun_none}
use Rattle.document.proofs.Counting.{counts}
use Rattle.document.proofs.store.Store.inner_count.Goals as goal

pub returns-in-Some : goal.returns-in-Some
returns-in-Some c = λ h b.
    let e = c.in-Some.ensures in
    c.count.ensures ∙ ap (λ x. count_in x.sort) e.1 ∙ counts c.args.self.now c.args.number h e.0 b

pub returns-in-None : goal.returns-in-None
returns-in-None c = λ h b.
    let n = begun_none c.args.self.now c.args.number (c.in-None.ensures) in
    absurd cc
