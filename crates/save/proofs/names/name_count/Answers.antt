use Rattle.steps.specs.Outline.{values, entry_at}
use Rattle.document.specs.Standing.{standing}
use Rattle.save.proofs.Walks.{object_count, no_object}
use Rattle.save.proofs.names.name_count.Goals as goal

pub returns-then-is_object : goal.returns-then-is_object
returns-then-is_object c = object_count (values (standing c.args.store.now)) c.args.number _ c.if-is_object.ensures c.inner_count.ensures

pub returns-else-is_object : goal.returns-else-is_object
returns-else-is_object c =
    let all = values (standing c.args.store.now) in
    no_object all c.args.number (entry_at all c.args.number) c.if-is_object.ensures
