use Rattle.std.proofs.Common.{refl}
use Rattle.refusal.specs.declared.Part.TheVariants.{Record}
use Rattle.steps.specs.Given.{tag}
use Rattle.steps.specs.Steps.{integer}
use Rattle.redbin.specs.Reading.{content, add, signed, any_word}
use Rattle.load.proofs.Filling.{field_add}
use Rattle.load.proofs.filler.Filler.integer.Goals as goal

pub returns : goal.returns
unfolding content
returns c =
    let a = c.args.self.now in
    λ one. record { filled = field_add a.reader _ a.store.now (λ n. any_word n Record) (λ s n. add s c.args.start.place (tag c.args.start.label) (integer (signed n))) _ _ _ c.in_ok-n.ensures (rw c.integer_value.ensures at c.add.ensures); lent = refl }
