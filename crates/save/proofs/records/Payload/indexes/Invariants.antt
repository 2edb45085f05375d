use Rattle.std.proofs.Common.{◌≡◌, map}
use Rattle.steps.specs.declared.parts.Node.TheVariants.{At}
use Rattle.steps.specs.Outline.{values, inner_names}
use Rattle.document.specs.Standing.{standing}
use Rattle.redbin.specs.Bytes.{words}
use Rattle.redbin.specs.Canonical.{index_of, symbols}
use Rattle.save.specs.Sinks.{extend}
use Rattle.save.specs.Symbols.{Ready}
use Rattle.save.specs.Values.{names_of}
use Rattle.save.specs.Inners.{taken_left}
use Rattle.save.proofs.records.Payload.indexes.Given as goal

-- with what is left all indexes were written, and the strings of the table still stand
abbrev pub invariant-loop-value : goal.invariant-loop-value
invariant-loop-value g l =
    let all = values (standing l.self.store.now) in
    (extend (g.S.Sink.output l.sink) (words (map (index_of (symbols all)) (names_of all (taken_left l.value-iterator)))) ≡ extend (g.S.Sink.output l.initial.sink) (words (map (index_of (symbols all)) (inner_names all (At l.number)))))
    × Ready (g.S.Sink.output l.sink) l.self.table.start l.self.table.end (symbols all)
