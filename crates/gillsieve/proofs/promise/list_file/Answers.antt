use Rattle.std.proofs.Common.{◌∷◌, Ok}
use Rattle.gillsieve.specs.Events.{loaded}
use Rattle.gillsieve.proofs.promise.list_file.Goals as goal

pub returns : goal.returns
returns g c = λ m calls h. c.print_both.ensures m (loaded c.args.file.now (Ok tt) ∷ calls) (c.args.draft.now, h, c.in_ok-load.ensures)
