use Rattle.redbin.proofs.Elsewhere.{is_lawful}
use Rattle.redbin.proofs.load_is_lawful.Goals as goal

pub returns : goal.returns
returns c = is_lawful
