use Rattle.std.proofs.Common.{◌≡◌, ◌+◌, ◌-◌, take, sym, ap, ◌∙◌, arith}
use Rattle.steps.specs.Outline.{values}
use Rattle.document.specs.Standing.{standing}
use Rattle.save.specs.Names.{listed, names_at}
use Rattle.save.proofs.Listed.{names_from, listed_start, listed_here, listed_later, listed_end}
use Rattle.save.proofs.symbols.is_listed.Goals as goal

pub loop-object-init : goal.loop-object-init
loop-object-init c = listed_start (values (standing c.args.store.now)) c.args.end c.args.name.now

pub returns-then-left-eq0 : goal.returns-then-left-eq0
returns-then-left-eq0 c =
    let rest = names_from (values (standing c.args.store.now)) c.loop-object.object in
    sym (c.loop-object.invariant ∙ ap (λ k. listed c.args.name.now (take k rest)) c.if-left-eq0.true)

pub loop-object-preserved-then-count-eq0 : goal.loop-object-preserved-then-count-eq0
loop-object-preserved-then-count-eq0 c =
    let all = values (standing c.args.store.now) in
    let n = c.args.name.now in
    let here = names_at all c.loop-object.object in
    let rest = names_from all (c.loop-object.object + 1) in
    let z : c.min-count.result ≡ 0 = c.if-count-eq0.true in
    let e : c.loop-object.left - c.min-count.result ≡ c.loop-object.left = omega (arith, z) in
    c.loop-object.invariant
    ∙ listed_later all c.loop-object.object c.loop-object.left c.min-count.result n (omega (arith, c.count-object-end.ensures)) (omega (arith, c.name_count.ensures, c.min-count.ensures)) (sym (ap (λ k. listed n (take k here)) z))
    ∙ ap (λ k. listed n (take k rest)) e

pub is_among-requires : goal.is_among-requires
is_among-requires c = record { there = omega (arith, c.count-object-end.ensures); within = omega (arith, c.name_count.ensures, c.min-count.ensures) }

pub returns-then-is_among : goal.returns-then-is_among
returns-then-is_among c =
    sym (c.loop-object.invariant ∙ listed_here (values (standing c.args.store.now)) c.loop-object.object c.loop-object.left _ c.args.name.now (omega (arith, c.count-object-end.ensures)) (omega (arith, c.name_count.ensures, c.min-count.ensures)) c.if-is_among.ensures)

pub loop-object-preserved : goal.loop-object-preserved
loop-object-preserved c =
    c.loop-object.invariant ∙ listed_later (values (standing c.args.store.now)) c.loop-object.object c.loop-object.left _ c.args.name.now (omega (arith, c.count-object-end.ensures)) (omega (arith, c.name_count.ensures, c.min-count.ensures)) c.if-is_among.ensures

pub returns : goal.returns
returns c =
    sym (c.loop-object.invariant ∙ listed_end (values (standing c.args.store.now)) c.loop-object.object c.loop-object.left c.args.name.now (omega (arith, c.count-object-end.ensures)))
