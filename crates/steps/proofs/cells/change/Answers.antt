use Rattle.std.proofs.Common.{refl}
use Rattle.steps.specs.Build.{cell_at, blank}
use Rattle.steps.proofs.Adjusted.{stored}
use Rattle.steps.proofs.cells.change.Goals as goal

pub returns-in-At : goal.returns-in-At
returns-in-At g c = λ f h.
    stored c.args.value c.args.cells.now c.in-At.number f (cell_at c.args.cells.now c.in-At.number) c.change.result blank c.in-At.is
    (h _ _ c.change.ensures) refl
