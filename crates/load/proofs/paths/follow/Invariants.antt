use Rattle.std.proofs.Common.{◌≡◌, map, drop, Some}
use Rattle.steps.specs.Outline.{values, walk, follow}
use Rattle.redbin.specs.Bytes.{number}
use Rattle.document.specs.Standing.{standing}
use Rattle.load.proofs.paths.follow.Given as goal

abbrev pub invariant-loop-offset : goal.invariant-loop-offset
invariant-loop-offset l = walk (values (standing l.store)) (Some l.node) (map number (drop l.offset-index l.path)) ≡ follow (values (standing l.store)) (map number l.path)
