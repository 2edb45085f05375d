use Rattle.std.proofs.Common.{Some, sym, ap, ◌∙◌}
use Rattle.steps.specs.Outline.{holder_in}
use Rattle.document.proofs.Reading.{read_at, read_none}
use Rattle.document.proofs.store.Store.holder_of.Goals as goal

pub returns-in_err-cell : goal.returns-in_err-cell
returns-in_err-cell c =
    c.from_residual.ensures ∙ ap holder_in (sym (read_none c.args.self.now c.args.number (c.in_err-cell.ensures)))

pub returns : goal.returns
returns c =
    let e = c.in_ok-cell.ensures in
    ap (λ x. Some x.holder) e.1 ∙ ap holder_in (sym (read_at c.args.self.now c.args.number e.0))
