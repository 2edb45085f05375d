use Rattle.std.proofs.Common.{ltb, ap}
use Rattle.document.proofs.Checked.{agrees}
use Rattle.document.proofs.store.Store.has_open.Goals as goal

pub returns : goal.returns
returns c = ap (ltb 0) (agrees c.args.self.now).depth_is
