use Rattle.std.proofs.Common.{rules}
use Rattle.steps.specs.declared.parts.Node.TheVariants.{At}
use Rattle.steps.specs.Build.{unshut}
use Rattle.steps.proofs.Within.{changed}
use Rattle.steps.proofs.cells.Pile+Cell.drop_close.Goals as goal

pub returns-clause-items : goal.returns-clause-items
returns-clause-items c =
    changed c.args.self.now c.change.new.cells (At c.args.number) unshut (c.change.ensures unshut (λ x y p. search rules))
