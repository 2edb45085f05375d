use Rattle.std.proofs.Common.{◌∙◌}
use Rattle.document.proofs.Reading.{count_is}
use Rattle.document.proofs.store.Store.count.Goals as goal

pub returns : goal.returns
returns c = c.count.ensures ∙ count_is c.args.self.now
