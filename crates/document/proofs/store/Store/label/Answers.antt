use Rattle.std.proofs.Common.{◌+◌, ◌≤◌, length, Some, sym, ap, ◌∙◌, subst}
use Rattle.steps.specs.Outline.{label_in}
use Rattle.steps.specs.Items.{items}
use Rattle.steps.specs.Build.{part}
use Rattle.document.proofs.Reading.{read_at, read_none, fine_at}
use Rattle.document.proofs.store.Store.label.Goals as goal

pub returns-in_err-cell : goal.returns-in_err-cell
returns-in_err-cell c = rw c.from_residual.ensures (read_none c.args.self.now c.args.number c.in_err-cell.ensures)

pub part-text-requires : goal.part-text-requires
part-text-requires c =
    let s = c.args.self.now in
    let e = c.in_ok-cell.ensures in
    subst (λ d. d.name.start + d.name.len ≤ length (items s.names)) (sym e.1) (fine_at s c.args.number e.0).named

pub returns : goal.returns
returns c =
    let s = c.args.self.now in
    let e = c.in_ok-cell.ensures in
    ap label_in (read_at s c.args.number e.0)
    ∙ ap (λ d. Some (record { new_line = d.new_line; name = part d.name (items s.names) })) (sym e.1)
    ∙ ap (λ n. Some (record { new_line = c.in_ok-cell.cell.now.new_line; name = n })) (sym c.part-text.ensures)
