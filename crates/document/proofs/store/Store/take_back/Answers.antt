use Rattle.std.proofs.Common.{refl, sym, ◌∙◌}
use Rattle.steps.specs.Items.{items}
use Rattle.document.proofs.Undone.{none_stands}
use Rattle.document.proofs.store.Store.take_back.Goals as goal

pub returns-then-count-eq0 : goal.returns-then-count-eq0
returns-then-count-eq0 c =
    let s = c.args.self.now in
    let n = none_stands (items s.codepoints) (items s.names) (items s.cells) (sym c.count-count.ensures ∙ c.if-count-eq0.true) in
    record { memory = refl; law = (refl, n, n); still = refl }
