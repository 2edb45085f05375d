use Rattle.std.proofs.Common.{Some, ap, ◌∙◌, arith}
use Rattle.steps.specs.Given.{begun}
use Rattle.steps.specs.Outline.{values}
use Rattle.document.specs.Standing.{standing}
use Rattle.save.proofs.Sane.{kept_fine}
use Rattle.save.proofs.Paid.{none_recorded, some_begun, fine_target}
use Rattle.save.proofs.records.Payload.record.Goals as goal

pub returns-in_default : goal.returns-in_default
returns-in_default g c = λ place p. none_recorded g.S.Sink.output (values (standing c.args.self.now.store.now)) c.args.number place c.args.sink.now c.in_default.ensures

pub open-requires : goal.open-requires
open-requires g c =
    record {
      there = c.requires.there;
      begun = some_begun (values (standing c.args.self.now.store.now)) c.args.number _ c.in-Some.ensures ∙ ap (λ i. Some (begun i)) c.in-Open.is;
      ready = c.requires.ready;
    }

pub share-requires : goal.share-requires
share-requires g c =
    let xs = values (standing c.args.self.now.store.now) in
    record {
      there = fine_target xs (kept_fine c.args.self.now.store.now) c.args.number _ _ c.requires.there (some_begun xs c.args.number _ c.in-Some.ensures ∙ ap (λ i. Some (begun i)) c.in-Share.is);
      within = omega (arith, c.requires.there);
    }
