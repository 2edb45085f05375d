use Rattle.steps.specs.Given.{tag}
use Rattle.steps.specs.Steps.{share}
use Rattle.load.proofs.Adding.{begun_added}
use Rattle.load.proofs.add.add_shared.Goals as goal

pub returns : goal.returns
returns c = begun_added c.args.store.now _ (tag c.args.start.label) (share c.args.share c.args.target) c.args.start.place _ c.share.result _ c.requires.ready c.requires.allowed c.share.ensures c.or_no_memory.ensures
