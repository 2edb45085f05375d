use Rattle.std.proofs.Common.{refl}
use Rattle.steps.specs.Given.{tag}
use Rattle.steps.specs.Outline.{values}
use Rattle.document.specs.Standing.{standing}
use Rattle.save.proofs.Held.{share_recorded}
use Rattle.save.proofs.records.Payload.share.Goals as goal

pub returns : goal.returns
returns g c = λ place. share_recorded g.S.Sink.output (values (standing c.args.self.now.store.now)) c.args.number c.requires.within place (tag c.args.label) _ _ _ c.args.share c.args.target _ c.requires.there refl c.share_start.ensures c.reference.ensures
