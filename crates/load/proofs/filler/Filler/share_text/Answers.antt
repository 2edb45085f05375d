use Rattle.std.proofs.Common.{◌<◌, [], arith}
use Rattle.std.proofs.lemmas.Bool.Decides.{nat_tests}
use Rattle.refusal.specs.declared.Part.TheVariants.{Record}
use Rattle.refusal.specs.declared.Reason.TheVariants.{Large}
use Rattle.steps.specs.declared.parts.Share.TheVariants.{Text}
use Rattle.steps.specs.Given.{tag}
use Rattle.redbin.specs.Reading.{word, content, add_share}
use Rattle.redbin.proofs.Got.{below_got}
use Rattle.load.specs.Ran.{size_of}
use Rattle.load.proofs.Filling.{field_fill}
use Rattle.load.proofs.filler.Filler.share_text.Goals as goal

pub add_share-requires-clause-allowed : goal.add_share-requires-clause-allowed
add_share-requires-clause-allowed c =
    let n = c.in_ok-head.head in
    let small : n < 2147483648 = (below_got (size_of c.args.self.now.reader) Record 4 2147483648 Large _ n _ (c.in_ok-head.ensures.ran [])).0 in
    grind (arith, nat_tests)

pub returns : goal.returns
unfolding content
returns c =
    let a = c.args.self.now in
    let g = c.add_share.ensures in
    λ one. record { filled = field_fill a.reader _ a.store.now (λ n. word n Record) (λ s n. add_share s c.args.start.place (tag c.args.start.label) (Text c.args.kind n)) _ _ _ _ c.in_ok-head.ensures g.filled; lent = g.lent }
