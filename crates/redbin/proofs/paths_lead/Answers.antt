use Rattle.redbin.proofs.Paths.{paths_lead}
use Rattle.redbin.proofs.paths_lead.Goals as goal

pub returns : goal.returns
returns c = paths_lead
