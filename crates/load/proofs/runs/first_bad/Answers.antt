use Rattle.std.proofs.Common.{◌/◌, length, ◌∙◌, rules}
use borrow.Author.Tests.{tests}
use Rattle.std.proofs.lemmas.Iterator.{IsFirst-from_position}
use Rattle.redbin.specs.Layout.{width}
use Rattle.load.proofs.Chunks.{Bad, Fine, chunks_yielded, sought}
use Rattle.load.proofs.runs.first_bad.Goals as goal

pub returns : goal.returns
returns c =
    let u = c.args.unit in
    let bs = c.args.bytes.now in
    let k = length bs / width u in
    sought u c.args.end k bs c.position.result
    (IsFirst-from_position _ _ c.position.result (Bad u c.args.end k bs) (Fine u c.args.end k bs) c.position.ensures.ran (chunks_yielded u c.chunks_exact.result bs (c.chunks_exact.ensures.size ∙ c.bytes.ensures) c.chunks_exact.ensures.rest) (λ x q h. search (rules, tests)) (λ x q h. search (rules, tests)))
