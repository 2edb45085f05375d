use Rattle.std.proofs.Common.{◌≡◌, ℕ, ◌+◌, ◌-◌, ◌*◌, Option, None, Some}
use Rattle.save.specs.Left.{names_left}
use Rattle.save.proofs.names.NamesIterator.next.Given as goal

-- the names to come are still the same
abbrev pub invariant-loop-self : goal.invariant-loop-self
invariant-loop-self l = names_left l.self ≡ names_left l.initial.self

-- 1 where an object is there, since a turn of the loop may only drop it
abbrev pub is_there : {A : Type 0} → Option A → ℕ
is_there None = 0
is_there (Some x) = 1

abbrev pub decreases-loop-self : goal.decreases-loop-self
decreases-loop-self l = 2 * (l.self.later.end - l.self.later.start) + is_there l.self.inner
