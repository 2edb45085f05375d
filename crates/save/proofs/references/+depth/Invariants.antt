use Rattle.save.specs.Values.{first_inner}
use Rattle.save.proofs.references.+depth.Given as goal

abbrev pub decreases-depth : goal.decreases-depth
decreases-depth l = first_inner l.node
