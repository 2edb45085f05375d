use Rattle.std.proofs.Common.{◌∙◌}
use Rattle.save.proofs.records.Payload.symbol.Goals as goal

pub returns : goal.returns
returns g c = λ names r z. c.length.ensures ∙ c.index-index.ensures names r z
