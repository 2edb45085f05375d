-- What an iterator over the symbols of a document has left.
use Rattle.std.specs.Prelude.{List}
use Rattle.std.specs.List.{enumerate_from}
use Rattle.std.specs.Iterator.Adapters.{enumerate_source, enumerate_count}
use Rattle.steps.specs.Steps.{Name}
use Rattle.steps.specs.Outline.{values}
use Rattle.document.specs.Standing.{standing}
use Rattle.save.specs.declared.symbols.Symbols.{Symbols}
use Rattle.save.specs.Names.{in_order, fresh}
use Rattle.save.specs.Left.{names_left}

-- the symbols that are still to come
abbrev pub symbols_left : Symbols → List Name
symbols_left s = fresh (in_order (values (standing s.store.now))) (enumerate_from (enumerate_count s.names) (names_left (enumerate_source s.names)))
