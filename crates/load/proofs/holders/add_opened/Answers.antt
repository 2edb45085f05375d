use Rattle.steps.specs.Given.{tag}
use Rattle.steps.specs.Steps.{open'}
use Rattle.load.proofs.Adding.{begun_added}
use Rattle.load.proofs.holders.add_opened.Goals as goal

pub returns : goal.returns
returns c = begun_added c.args.store.now _ (tag c.args.start.label) (open' c.args.holder) c.args.start.place _ c.open.result _ c.requires.ready c.requires.allowed c.open.ensures c.or_no_memory.ensures
