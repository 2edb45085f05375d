use Rattle.redbin.proofs.Elsewhere.{reads_back}
use Rattle.redbin.proofs.canonical_reads_back.Goals as goal

pub returns : goal.returns
returns c = reads_back
