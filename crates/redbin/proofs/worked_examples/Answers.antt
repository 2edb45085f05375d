use Rattle.redbin.proofs.Examples.{examples}
use Rattle.redbin.proofs.worked_examples.Goals as goal

pub returns : goal.returns
returns c = examples
