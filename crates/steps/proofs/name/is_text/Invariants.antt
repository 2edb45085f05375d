use Rattle.std.proofs.Common.{◌≡◌, length}
use Rattle.steps.specs.Utf8.{utf8}
use Rattle.steps.proofs.name.is_text.Given as goal

abbrev pub invariant-loop-left : goal.invariant-loop-left
invariant-loop-left l = utf8 l.left ≡ utf8 l.initial.left

abbrev pub decreases-loop-left : goal.decreases-loop-left
decreases-loop-left l = length l.left
