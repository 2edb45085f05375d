use Rattle.std.proofs.Common.{sym}
use Rattle.document.proofs.store.Store.begin.Goals as goal

pub returns : goal.returns
returns c =
    record { memory = c.add.ensures.memory; law = (sym c.in_ok-check.ensures, c.count-number.ensures, c.add.ensures.told); still = tt }
