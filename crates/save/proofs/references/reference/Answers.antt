use Rattle.steps.specs.Outline.{values, path_to}
use Rattle.document.specs.Standing.{standing}
use Rattle.save.proofs.Climbs.{referred}
use Rattle.save.proofs.references.reference.Goals as goal

pub returns : goal.returns
returns g c = referred g.S.Sink.output _ _ _ c.depth.result (path_to (values (standing c.args.store.now)) c.args.target) c.words.ensures c.depth.ensures.length c.path.ensures
