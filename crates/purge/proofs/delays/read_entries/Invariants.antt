use Rattle.std.proofs.Common.{vec_items}
use Rattle.purge.specs.Entries.{Listable}
use Rattle.purge.proofs.delays.read_entries.Given as goal

abbrev pub invariant-loop-words : goal.invariant-loop-words
invariant-loop-words l = Listable (vec_items l.entries)
