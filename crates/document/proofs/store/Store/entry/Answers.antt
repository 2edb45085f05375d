use Rattle.std.proofs.Common.{◌+◌, ◌≤◌, length, sym, ap, ◌∙◌, subst}
use Rattle.std.specs.Option.{option_map}
use Rattle.steps.specs.Given.{entry, begun}
use Rattle.steps.specs.Items.{items}
use Rattle.steps.specs.Build.{part}
use Rattle.document.proofs.Reading.{read_entry, read_none, fine_at, span_within}
use Rattle.document.proofs.store.Store.entry.Goals as goal

pub returns-in_err-cell : goal.returns-in_err-cell
returns-in_err-cell c =
    ap (option_map entry) c.from_residual.ensures ∙ sym (read_none c.args.self.now c.args.number (c.in_err-cell.ensures))

pub part-name-requires : goal.part-name-requires
part-name-requires c =
    let s = c.args.self.now in
    let e = c.in_ok-cell.ensures in
    subst (λ d. d.name.start + d.name.len ≤ length (items s.names)) (sym e.1) (fine_at s c.args.number e.0).named

pub part-codepoints-requires : goal.part-codepoints-requires
part-codepoints-requires c =
    let s = c.args.self.now in
    let e = c.in_ok-cell.ensures in
    subst (λ x. x.start + x.len ≤ length (items s.codepoints)) (sym c.span.ensures)
    (span_within s c.args.number c.in_ok-cell.cell.now e.0 e.1)

pub returns : goal.returns
returns c =
    let s = c.args.self.now in
    let e = c.in_ok-cell.ensures in
    sym (read_entry s c.args.number c.in_ok-cell.cell.now (begun c.item.result) c.part-name.result.now c.part-codepoints.result.now e.0 e.1
    c.part-name.ensures (c.part-codepoints.ensures ∙ ap (λ x. part x (items s.codepoints)) c.span.ensures) c.item.ensures)
