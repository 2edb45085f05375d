use Rattle.std.proofs.Common.{◌∷◌, ◌++◌, take, length, None, Some, ap, sym, ◌∙◌, arith}
use Rattle.std.specs.List.{flat_map}
use Rattle.std.specs.Iterator.Adapters.{take_source}
use Rattle.steps.specs.Outline.{values}
use Rattle.document.specs.Standing.{standing}
use Rattle.save.specs.Values.{names_of}
use Rattle.save.specs.Names.{names_at}
use Rattle.save.specs.Inners.{inner_left, taken_left, object_left}
use Rattle.save.proofs.Found.{numbers, taken}
use Rattle.save.proofs.Sane.{kept_sound}
use Rattle.save.proofs.Walks.{value_next}
use Rattle.save.proofs.names.NamesIterator.next.Invariants.{is_there}
use Rattle.save.proofs.names.NamesIterator.next.Goals as goal

pub returns-in-Some-next-clause-steps : goal.returns-in-Some-next-clause-steps
returns-in-Some-next-clause-steps c =
    let s = c.loop-self.self in
    let all = values (standing s.store.now) in
    let later = flat_map (names_at all) (numbers s.later) in
    sym c.loop-self.invariant ∙ ap (λ vs. names_of all vs ++ later) (ap object_left c.in-Some.is ∙ taken inner_left c.in-Some.inner c.next.new.self (Some c.in-Some-next.value) c.in-Some-next.ensures.steps)
    ∙ ap (λ n. n ∷ names_of all (taken_left c.next.new.self) ++ later) (sym c.name_of.ensures)

pub loop-self-smaller-in-Some : goal.loop-self-smaller-in-Some
loop-self-smaller-in-Some c = omega (arith, ap is_there c.in-Some.is)

pub loop-self-preserved-in-Some : goal.loop-self-preserved-in-Some
loop-self-preserved-in-Some c =
    let s = c.loop-self.self in
    let all = values (standing s.store.now) in
    ap (λ vs. names_of all vs ++ flat_map (names_at all) (numbers s.later)) (sym (ap object_left c.in-Some.is ∙ taken inner_left c.in-Some.inner c.next.new.self None c.in_default.ensures.steps)) ∙ c.loop-self.invariant

pub loop-self-preserved : goal.loop-self-preserved
loop-self-preserved c =
    let s = c.loop-self.self in
    let all = values (standing s.store.now) in
    let v = c.in_ok-object-in-None.object in
    let n = length (names_at all v) in
    let e = ap (λ n. take n (inner_left (take_source c.take.result))) (c.take.ensures.count ∙ c.name_count-count.ensures) ∙ ap (λ i. take n (inner_left i)) c.take.ensures.source ∙ ap (take n) c.of.ensures in
    value_next all (kept_sound s.store.now) _ (taken_left c.take.result) s.later _ v (ap object_left c.in-None.is) c.in_ok-object-in-None.ensures.steps s.within e ∙ c.loop-self.invariant
