use Rattle.std.proofs.Common.{rules}
use Rattle.steps.specs.Build.{less}
use Rattle.steps.proofs.Within.{changed}
use Rattle.steps.proofs.cells.Pile+Cell.lower.Goals as goal

pub returns-clause-items : goal.returns-clause-items
returns-clause-items c =
    changed c.args.self.now c.change.new.cells c.args.holder less (c.change.ensures less (λ x y p. search rules))
