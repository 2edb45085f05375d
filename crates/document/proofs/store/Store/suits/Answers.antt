use Rattle.std.proofs.Common.{sym, ap, ◌∙◌}
use Rattle.steps.specs.Outline.{suits, values}
use Rattle.document.specs.Standing.{standing}
use Rattle.document.proofs.Checked.{suits_at, suits_none}
use Rattle.document.proofs.store.Store.suits.Goals as goal

pub returns-in-Some : goal.returns-in-Some
returns-in-Some c =
    let e = c.in-Some.ensures in
    suits_at c.args.self.now c.in-At.number c.args.family c.suits.result c.in-Some.cell.now e.0 c.suits.ensures e.1
    ∙ ap (λ t. suits (values (standing c.args.self.now)) t c.args.family) (sym c.in-At.is)

pub returns-in-None : goal.returns-in-None
returns-in-None c =
    suits_none c.args.self.now c.in-At.number c.args.family (c.in-None.ensures)
    ∙ ap (λ t. suits (values (standing c.args.self.now)) t c.args.family) (sym c.in-At.is)
