-- What an iterator over inner values has left.
use Rattle.std.specs.Prelude.{ℕ, ◌-◌, List, [], take, None, Some, Option}
use Rattle.std.specs.declared.iter.Take.{Take}
use Rattle.std.specs.Iterator.Adapters.{take_source, take_count}
use Rattle.steps.specs.Outline.{values}
use Rattle.document.specs.Standing.{standing}
use Rattle.save.specs.declared.inner.Inner.{Inner}
use Rattle.save.specs.Values.{inner_of}

-- the numbers that are still to come
abbrev pub inner_left : Inner → List ℕ
inner_left s = inner_of (values (standing s.store.now)) s.holder s.numbers.start (s.numbers.end - s.numbers.start)

-- those where only so many are taken
abbrev pub taken_left : Take Inner → List ℕ
taken_left s = take (take_count s) (inner_left (take_source s))

-- those of an object, if there is one
abbrev pub object_left : Option (Take Inner) → List ℕ
object_left None = []
object_left (Some s) = taken_left s
