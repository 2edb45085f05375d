use Rattle.load.proofs.Adding.{close_added}
use Rattle.load.proofs.holders.add_close.Goals as goal

pub returns : goal.returns
returns c = close_added c.args.store.now _ c.close.result c.requires c.close.ensures
