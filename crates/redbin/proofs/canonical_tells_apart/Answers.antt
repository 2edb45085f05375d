use Rattle.redbin.proofs.Elsewhere.{tells_apart}
use Rattle.redbin.proofs.canonical_tells_apart.Goals as goal

pub returns : goal.returns
returns c = tells_apart
