use Rattle.std.proofs.Common.{◌-◌, sym, ap, ◌∙◌, arith, rules, tests}
use Rattle.std.proofs.lemmas.Iterator.{YieldsList-from_range}
use Rattle.std.proofs.lemmas.Iterator.Consumers.{YieldsList-from_filter, count_from_yields_List}
use Rattle.steps.specs.Outline.{values, entry_at, inner_names, held_by}
use Rattle.document.specs.Standing.{standing}
use Rattle.save.specs.Values.{oldest}
use Rattle.save.proofs.Sane.{kept_sound, first_none}
use Rattle.save.proofs.Numbered.{count_until}
use Rattle.save.proofs.values.inner_count.Goals as goal

pub returns : goal.returns
returns c =
    let xs = values (standing c.args.store.now) in
    let h = c.args.holder in
    let low = c.first_inner.result in
    count_from_yields_List {v = λ x. x} _ _ c.count.ensures.ran (YieldsList-from_filter _ (λ v. held_by (entry_at xs v) h) (YieldsList-from_range low c.args.end (c.args.end - low) (cc) (omega arith)) c.filter-inner.ensures.closure (λ x b q k. search (rules, tests)))
    ∙ sym (count_until xs h low c.args.end (ap (λ k. inner_names (oldest k xs) h) c.first_inner.ensures ∙ first_none xs h (kept_sound c.args.store.now) (omega (arith, c.requires.after, c.requires.within))) (omega (arith, c.requires.after, c.first_inner.ensures)) c.requires.within)
