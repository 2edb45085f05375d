use Rattle.std.proofs.Common.{map, not, take, None, Some, ap, rules, tests, arith}
use Rattle.steps.specs.Outline.{values}
use Rattle.document.specs.Standing.{standing}
use Rattle.save.specs.Names.{listed, in_order}
use Rattle.save.specs.Left.{names_left}
use Rattle.save.specs.SymbolsLeft.{symbols_left}
use Rattle.save.proofs.Found.{counts_found, same_total, goes_on}
use Rattle.save.proofs.symbols.SymbolsIterator.next.Goals as goal

pub invariant_of-self : goal.invariant_of-self
invariant_of-self c = record { fits = omega (arith, same_total (λ x. x.now) names_left c.args.self.now.names c.find.new.self _ _ c.find.ensures.ran.2, c.args.self.now.fits) }

pub returns-in_err-name-clause-steps : goal.returns-in_err-name-clause-steps
returns-in_err-name-clause-steps c =
    let s = c.args.self.now in
    let e = c.from_residual.ensures in
    let h = counts_found (λ x. x.now) names_left _ (λ p. not (listed p.1 (take p.0 (in_order (values (standing s.store.now)))))) _ (λ x b q k. search (rules, tests)) s.names c.find.new.self None c.in_err-name.ensures.ran in
    rw e (ap (map (λ p. p.1)) h.0, ap (map (λ p. p.1)) h.1)

pub returns-clause-steps : goal.returns-clause-steps
returns-clause-steps c =
    let s = c.args.self.now in
    let h = counts_found (λ x. x.now) names_left _ (λ p. not (listed p.1 (take p.0 (in_order (values (standing s.store.now)))))) _ (λ x b q k. search (rules, tests)) s.names c.find.new.self (Some (c.in_ok-name.field-0-0, c.in_ok-name.name)) c.in_ok-name.ensures.ran in
    ap (map (λ p. p.1)) h

pub returns-clause-goes : goal.returns-clause-goes
returns-clause-goes c = goes_on (λ x. x.now) symbols_left _ _ (Some c.in_ok-name.name) (returns-clause-steps c)
