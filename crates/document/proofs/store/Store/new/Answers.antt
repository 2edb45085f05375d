use Rattle.std.proofs.Common.{length, ap, ◌∙◌}
use Rattle.steps.specs.Law.{so_much}
use Rattle.steps.specs.Build.{tell}
use Rattle.steps.specs.Items.{items, lent}
use Rattle.document.proofs.store.Store.new.Goals as goal

pub returns-clause-standing : goal.returns-clause-standing
returns-clause-standing c = ap (tell (items c.new-2.result) (items c.new-3.result)) c.new.ensures.items

pub returns-clause-memory : goal.returns-clause-memory
returns-clause-memory c =
    let m = c.args.memories in
    ap (λ x. so_much x (lent c.new-2.result) (lent c.new-3.result)) c.new.ensures.lent
    ∙ ap (λ x. so_much (length m.cells.now) x (lent c.new-3.result)) c.new-2.ensures.lent
    ∙ ap (λ x. so_much (length m.cells.now) (length m.codepoints.now) x) c.new-3.ensures.lent
