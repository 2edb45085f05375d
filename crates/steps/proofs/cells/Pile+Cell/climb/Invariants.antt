use Rattle.std.proofs.Common.{◌≡◌}
use Rattle.steps.specs.Items.{items}
use Rattle.steps.specs.Build.{holders, ups}
use Rattle.steps.proofs.cells.Pile+Cell.climb.Given as goal

abbrev pub invariant-loop-k : goal.invariant-loop-k
invariant-loop-k l = l.at ≡ ups (holders (items l.self)) l.k l.initial.at
