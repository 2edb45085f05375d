use Rattle.std.proofs.Common.{sym, ap, ◌∙◌, arith}
use Rattle.std.proofs.lemmas.List.{get_or_past}
use Rattle.steps.specs.Items.{items}
use Rattle.steps.specs.Build.{holders, up, blank}
use Rattle.steps.proofs.Held.{holders_at}
use Rattle.steps.proofs.cells.Pile+Cell.holder_of.Goals as goal

pub returns-in-At : goal.returns-in-At
returns-in-At c =
    ap (λ x. x.holder) (c.get.ensures blank) ∙ sym (holders_at (items c.args.self.now) c.in-At.number)
    ∙ ap (up (holders (items c.args.self.now))) (sym c.in-At.is)

pub returns-in_default : goal.returns-in_default
returns-in_default c =
    let xs = items c.args.self.now in
    ap (λ x. x.holder) (sym (get_or_past xs c.in-At.number blank (omega (arith, c.count.ensures))))
    ∙ sym (holders_at xs c.in-At.number) ∙ ap (up (holders xs)) (sym c.in-At.is)
