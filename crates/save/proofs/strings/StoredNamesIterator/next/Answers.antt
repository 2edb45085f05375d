use Rattle.std.proofs.Common.{sym, ◌∙◌, rules, tests}
use Rattle.std.proofs.lemmas.Iterator.Search.{position_from_yields_List}
use Rattle.save.proofs.Stored.{closes, closes_at, eights_yielded, took_none, took_first}
use Rattle.save.proofs.strings.StoredNamesIterator.next.Goals as goal

pub returns-in_err-before-clause-steps : goal.returns-in_err-before-clause-steps
returns-in_err-before-clause-steps c =
    let xs = c.args.self.now.0.now in
    let p = position_from_yields_List closes c.position.new.self _ c.position.result c.position.ensures.ran (eights_yielded c.chunks_exact.result xs c.chunks_exact.ensures.size c.chunks_exact.ensures.rest) (λ x b q k. search (rules, tests, closes_at)) in
    took_none xs _ _ (sym c.in_err-before.was ∙ p) c.from_residual.ensures

pub returns-clause-steps : goal.returns-clause-steps
returns-clause-steps c =
    let xs = c.args.self.now.0.now in
    let p = position_from_yields_List closes c.position.new.self _ c.position.result c.position.ensures.ran (eights_yielded c.chunks_exact.result xs c.chunks_exact.ensures.size c.chunks_exact.ensures.rest) (λ x b q k. search (rules, tests, closes_at)) in
    took_first xs _ _ _ (sym c.in_ok-before.was ∙ p) c.split_at.ensures.front c.split_at.ensures.back
