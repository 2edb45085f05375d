use Rattle.std.proofs.Common.{sym, refl}
use Rattle.load.specs.Tables.{names_of}
use Rattle.load_file.proofs.file.symbols.Goals as goal

pub returns : goal.returns
unfolding names_of
returns c = record { file = refl; ran = λ e. rw (sym c.if-has_table.ensures) }
