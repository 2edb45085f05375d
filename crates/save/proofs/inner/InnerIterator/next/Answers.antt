use Rattle.std.proofs.Common.{rules, tests}
use Rattle.std.proofs.iter.Yields.{nat_range_steps}
use Rattle.steps.specs.Outline.{values, entry_at, held_by}
use Rattle.document.specs.Standing.{standing}
use Rattle.save.specs.Inners.{inner_left}
use Rattle.save.proofs.Found.{found, numbers, range_none, range_some, goes_on}
use Rattle.save.proofs.inner.InnerIterator.next.Goals as goal

pub returns-clause-steps : goal.returns-clause-steps
returns-clause-steps c =
    let s = c.args.self.now in
    let xs = values (standing s.store.now) in
    found nat_range_steps (λ n. n) numbers range_none range_some _ (λ n. held_by (entry_at xs n) s.holder) _ (λ x b q k. search (rules, tests)) s.numbers c.find.new.self c.find.result c.find.ensures.ran

pub returns-clause-goes : goal.returns-clause-goes
returns-clause-goes c = goes_on (λ n. n) inner_left _ _ _ (returns-clause-steps c)
