use Rattle.save.specs.Values.{first_inner}
use Rattle.save.proofs.references.+path.Given as goal

abbrev pub decreases-path : goal.decreases-path
decreases-path g l = first_inner l.node
