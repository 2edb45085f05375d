use Rattle.std.proofs.Common.{◌<◌, [], arith, refl}
use Rattle.std.proofs.lemmas.Bool.Decides.{nat_tests}
use Rattle.refusal.specs.declared.Part.TheVariants.{Record}
use Rattle.refusal.specs.declared.Reason.TheVariants.{BadContent}
use Rattle.steps.specs.Given.{tag}
use Rattle.steps.specs.Steps.{char}
use Rattle.redbin.specs.Reading.{content, below, add}
use Rattle.redbin.proofs.Got.{below_got}
use Rattle.load.specs.Ran.{size_of}
use Rattle.load.proofs.Filling.{field_add}
use Rattle.load.proofs.filler.Filler.char.Goals as goal

pub add-requires-clause-allowed : goal.add-requires-clause-allowed
add-requires-clause-allowed c =
    let n = c.in_ok-n.n in
    let small : n < 1114112 = (below_got (size_of c.args.self.now.reader) Record 4 1114112 BadContent _ n _ (c.in_ok-n.ensures.ran [])).0 in
    grind (arith, nat_tests)

pub returns : goal.returns
unfolding content
returns c =
    let a = c.args.self.now in
    λ one. record { filled = field_add a.reader _ a.store.now (λ n. below n Record 4 1114112 BadContent) (λ s n. add s c.args.start.place (tag c.args.start.label) (char n)) _ _ _ c.in_ok-n.ensures c.add.ensures; lent = refl }
