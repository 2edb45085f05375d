use Rattle.std.proofs.Common.{◌≡◌, length, take}
use Rattle.redbin.specs.Layout.{width}
use Rattle.document.specs.Standing.{standing, memory_lent, free_points}
use Rattle.load.specs.Runs.{entries}
use Rattle.load.proofs.texts.decode.Given as goal

abbrev pub invariant-loop-i : goal.invariant-loop-i
invariant-loop-i l =
    (memory_lent l.store ≡ memory_lent l.initial.store)
    × (standing l.store ≡ standing l.initial.store)
    × (take (length l.yielded) (free_points l.store) ≡ entries (width l.text.unit) (length l.yielded) l.text.bytes.now)
