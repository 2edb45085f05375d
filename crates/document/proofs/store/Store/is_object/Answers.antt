use Rattle.std.proofs.Common.{Some, sym, ap, ◌∙◌}
use Rattle.steps.specs.Items.{items}
use Rattle.steps.specs.Build.{object_in, entry_of}
use Rattle.document.proofs.Checked.{object_sort}
use Rattle.document.proofs.Reading.{read_at, read_none}
use Rattle.document.proofs.store.Store.is_object.Goals as goal

pub returns-in-Some : goal.returns-in-Some
returns-in-Some c =
    let s = c.args.self.now in
    let e = c.in-Some.ensures in
    c.is_object.ensures ∙ sym (object_sort (items s.codepoints) c.in-Some.cell.now.sort) ∙ ap object_in (sym (read_at s c.args.number e.0 ∙ ap (λ d. Some (entry_of (items s.codepoints) (items s.names) d)) (sym e.1)))

pub returns-in-None : goal.returns-in-None
returns-in-None c = ap object_in (sym (read_none c.args.self.now c.args.number c.in-None.ensures))
