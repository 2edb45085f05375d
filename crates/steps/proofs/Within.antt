-- Cells in use, as part of the memory that is lent.
use Rattle.std.proofs.Common.{◌≡◌, List, take, ap, ◌∙◌}
use Rattle.steps.specs.declared.parts.Node.{Node}
use Rattle.steps.specs.declared.parts.Cell.{Cell}
use Rattle.steps.specs.declared.pile.Pile.{Pile}
use Rattle.steps.specs.Items.{items}
use Rattle.steps.specs.Build.{adjust_at}
use Rattle.steps.proofs.Adjusted.{take_adjust_at}

pub changed : (p : Pile Cell) (xs : List Cell) (o : Node) (f : Cell → Cell) → xs ≡ adjust_at o f p.memory.now → take p.used xs ≡ adjust_at o f (items p)
changed p xs o f e = ap (take p.used) e ∙ take_adjust_at p.used p.memory.now o f
