use Rattle.std.proofs.Common.{◌≡◌, true, map, take, None, Some, sym, ap, ◌∙◌, subst}
use Rattle.std.specs.Iterator.Adapters.{take_source}
use Rattle.steps.specs.Utf8.{no_zero}
use Rattle.steps.specs.Outline.{values}
use Rattle.document.specs.Standing.{standing}
use Rattle.redbin.specs.Bytes.{words}
use Rattle.redbin.specs.Canonical.{index_of, symbols}
use Rattle.save.specs.Sinks.{extend}
use Rattle.save.specs.Values.{names_of}
use Rattle.save.specs.Inners.{inner_left, taken_left}
use Rattle.save.proofs.Blind.{ready_gained}
use Rattle.save.proofs.Sane.{kept_sound, kept_fine, fine_name}
use Rattle.save.proofs.Found.{taken}
use Rattle.save.proofs.Walks.{inner_first}
use Rattle.save.proofs.Indexes.{indexes_next, indexes_end}
use Rattle.save.proofs.records.Payload.indexes.Goals as goal

pub loop-value-init : goal.loop-value-init
loop-value-init g c =
    let all = values (standing c.args.self.now.store.now) in
    let left = ap (names_of all) (ap taken_left c.into_iter-value-iterator.ensures.into_iter_gives ∙ ap (λ n. take n (inner_left (take_source c.take-value-items.result))) c.take-value-items.ensures.count ∙ ap (λ i. take c.args.count (inner_left i)) c.take-value-items.ensures.source ∙ ap (take c.args.count) c.of.ensures) ∙ inner_first all (kept_sound c.args.self.now.store.now) c.args.number c.args.count c.requires.there c.requires.counted in
    (ap (λ ns. extend (g.S.Sink.output c.args.sink.now) (words (map (index_of (symbols all)) ns))) left, c.requires.ready)

pub loop-value-preserved : goal.loop-value-preserved
loop-value-preserved g c =
    let all = values (standing c.args.self.now.store.now) in
    let z = subst (λ n. no_zero n ≡ true) (sym c.name_of.ensures) (fine_name all (kept_fine c.args.self.now.store.now) c.in-Some.value) in
    let w = c.symbol.ensures (symbols all) c.loop-value.invariant.1 z in (
      indexes_next _ _ all (symbols all) (taken_left c.loop-value.value-iterator) (taken_left c.next.new.self) c.in-Some.value _ (taken inner_left c.loop-value.value-iterator c.next.new.self (Some c.in-Some.value) c.in-Some.ensures.steps) c.name_of.ensures w ∙ c.loop-value.invariant.0,
      ready_gained g.S.Sink.output _ _ _ c.args.self.now.table.start c.args.self.now.table.end (symbols all) w c.loop-value.invariant.1,
    )

pub returns : goal.returns
returns g c =
    let all = values (standing c.args.self.now.store.now) in
    sym (indexes_end (g.S.Sink.output c.loop-value.sink) all (symbols all) _ (taken inner_left c.loop-value.value-iterator c.next.new.self None c.in-None.ensures.steps)) ∙ c.loop-value.invariant.0
