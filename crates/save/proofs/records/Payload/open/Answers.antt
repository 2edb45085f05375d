use Rattle.std.proofs.Common.{arith}
use Rattle.steps.specs.Given.{tag}
use Rattle.steps.specs.Outline.{values}
use Rattle.document.specs.Standing.{standing}
use Rattle.redbin.specs.Canonical.{symbols}
use Rattle.save.proofs.Blind.{ready_gained}
use Rattle.save.proofs.Held.{list_recorded, object_recorded}
use Rattle.save.proofs.records.Payload.open.Goals as goal

pub returns-in-List : goal.returns-in-List
returns-in-List g c =
    let i = c.in-List.is in
    λ place. rw i (list_recorded g.S.Sink.output (values (standing c.args.self.now.store.now)) c.args.number (omega (arith, c.requires.there)) place (tag c.args.label) _ _ _ _ _ _ (c.inner_count-count.ensures c.args.holder c.requires.begun) c.header.ensures c.words.ensures)

pub indexes-requires : goal.indexes-requires
indexes-requires g c =
    record {
      there = c.requires.there;
      counted = c.inner_count-count.ensures c.args.holder c.requires.begun;
      ready = ready_gained g.S.Sink.output _ _ _ c.args.self.now.table.start c.args.self.now.table.end (symbols (values (standing c.args.self.now.store.now))) c.words-in-Object.ensures c.requires.ready;
    }

pub returns-in-Object : goal.returns-in-Object
returns-in-Object g c =
    let i = c.in-Object.is in
    λ place. rw i (object_recorded g.S.Sink.output (values (standing c.args.self.now.store.now)) c.args.number (omega (arith, c.requires.there)) place (tag c.args.label) _ _ _ _ _ _ _ _ _ _ _ (c.inner_count-count.ensures c.args.holder c.requires.begun) c.header-first.ensures c.context_header-context.ensures c.words-in-Object.ensures c.indexes.ensures)
