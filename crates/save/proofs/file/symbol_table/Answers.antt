use Rattle.std.proofs.Common.{sym}
use Rattle.std.proofs.lemmas.Bool.{ltb-true, ltb-false}
use Rattle.steps.specs.Outline.{values}
use Rattle.document.specs.Standing.{standing}
use Rattle.redbin.specs.Canonical.{symbols}
use Rattle.save.proofs.Filed.{tabled_some, tabled_none}
use Rattle.save.proofs.file.symbol_table.Goals as goal

pub returns-then-has_table : goal.returns-then-has_table
returns-then-has_table g c = tabled_some g.S.Sink.output (symbols (values (standing c.args.store.now))) _ _ _ _ c.args.sizes.count c.args.sizes.strings (ltb-true 0 c.args.sizes.count (sym c.if-has_table.ensures)) c.requires.counted c.requires.sized c.words.ensures c.offsets.ensures c.strings.ensures.bytes

pub returns-else-has_table : goal.returns-else-has_table
returns-else-has_table g c = tabled_none g.S.Sink.output (symbols (values (standing c.args.store.now))) _ c.args.sizes.count (ltb-false 0 c.args.sizes.count (sym c.if-has_table.ensures)) c.requires.counted
