use Rattle.std.proofs.Common.{◌+◌, ◌*◌, length}
use Rattle.load.specs.Tables.{table_of}
use Rattle.load_file.specs.Levels.{record_at, names_left}
use Rattle.load_file.proofs.Turns.{Turning}
use Rattle.load_file.proofs.loader.Loader.+records.Given as goal

-- each level that is opened takes one from the depth; inside a level the calls go down this list
abbrev pub decreases-value : goal.decreases-value
decreases-value l = 5 * l.depth.now.left + 4

abbrev pub decreases-content : goal.decreases-content
decreases-content l = 5 * l.depth.now.left + 3

abbrev pub decreases-list : goal.decreases-list
decreases-list l = 5 * l.depth.now.left + 2

abbrev pub decreases-context : goal.decreases-context
decreases-context l = 5 * l.depth.now.left + 2

abbrev pub decreases-hold : goal.decreases-hold
decreases-hold l = 5 * l.depth.now.left + 1

abbrev pub decreases-values : goal.decreases-values
decreases-values l = 5 * l.depth.now.left

abbrev pub invariant-values-loop-name : goal.invariant-values-loop-name
invariant-values-loop-name l =
    Turning l.at (names_left (table_of l.initial.self.scope.symbols) (record_at l.initial.self.levels.records l.at)) l.initial.self l.initial.filler l.self l.filler l.level.depth.now.left

abbrev pub decreases-values-loop-name : goal.decreases-values-loop-name
decreases-values-loop-name l = length (names_left (table_of l.self.scope.symbols) (record_at l.self.levels.records l.at))
