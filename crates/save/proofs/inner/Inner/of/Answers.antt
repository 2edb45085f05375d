use Rattle.std.proofs.Common.{arith}
use Rattle.save.proofs.Climbs.{count_below}
use Rattle.save.proofs.inner.Inner.of.Goals as goal

pub overflow_add-result : goal.overflow_add-result
overflow_add-result c = omega (arith, c.requires, count_below c.args.store.now)
