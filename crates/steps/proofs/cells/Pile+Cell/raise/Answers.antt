use Rattle.std.proofs.Common.{rules}
use Rattle.steps.specs.Build.{more}
use Rattle.steps.proofs.Within.{changed}
use Rattle.steps.proofs.cells.Pile+Cell.raise.Goals as goal

pub returns-clause-items : goal.returns-clause-items
returns-clause-items c =
    changed c.args.self.now c.change.new.cells c.args.holder more (c.change.ensures more (λ x y p. search rules))
