-- What records are written from.
use Rattle.std.specs.Prelude.{List}
use Rattle.steps.specs.Outline.{Entry, values}
use Rattle.document.specs.Standing.{standing}
use Rattle.redbin.specs.Canonical.{symbols}
use Rattle.save.specs.declared.records.Payload.{Payload}
use Rattle.save.specs.Sinks.{Output}
use Rattle.save.specs.Symbols.{Ready}

-- the values of the document
abbrev pub entries : Payload → List Entry
entries p = values (standing p.store.now)

-- the strings of its symbols stand in the memory, or there is no memory to write into
abbrev pub TableReady : Payload → Output → Type 0
TableReady p o = Ready o p.table.start p.table.end (symbols (entries p))
