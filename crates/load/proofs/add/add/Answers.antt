use Rattle.steps.specs.Given.{tag, content}
use Rattle.steps.specs.Steps.{put}
use Rattle.load.proofs.Adding.{begun_added}
use Rattle.load.proofs.add.add.Goals as goal

pub returns : goal.returns
returns c = begun_added c.args.store.now _ (tag c.args.start.label) (put (content c.args.value)) c.args.start.place _ c.put.result _ c.requires.ready c.requires.allowed c.put.ensures c.or_no_memory.ensures
