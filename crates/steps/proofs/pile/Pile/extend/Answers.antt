use Rattle.std.proofs.Common.{take-add}
use Rattle.steps.proofs.pile.Pile.extend.Goals as goal

pub returns-clause-items : goal.returns-clause-items
returns-clause-items g c = take-add c.args.self.now.used c.args.more c.args.self.now.memory.now
