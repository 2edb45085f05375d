-- What an iterator over the names of a document has left.
use Rattle.std.specs.Prelude.{◌-◌, List, ◌++◌}
use Rattle.std.specs.List.{range_with_len, flat_map}
use Rattle.steps.specs.Steps.{Name}
use Rattle.steps.specs.Outline.{values}
use Rattle.document.specs.Standing.{standing}
use Rattle.save.specs.declared.names.Names.{Names}
use Rattle.save.specs.Values.{names_of}
use Rattle.save.specs.Inners.{object_left}
use Rattle.save.specs.Names.{names_at}

-- the names that are still to come: those of an object, and those of the values behind it
abbrev pub names_left : Names → List Name
names_left s = names_of (values (standing s.store.now)) (object_left s.inner) ++ flat_map (names_at (values (standing s.store.now))) (range_with_len s.later.start (s.later.end - s.later.start))
