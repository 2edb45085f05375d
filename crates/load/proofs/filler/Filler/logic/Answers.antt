use Rattle.std.proofs.Common.{refl}
use Rattle.refusal.specs.declared.Part.TheVariants.{Record}
use Rattle.refusal.specs.declared.Reason.TheVariants.{BadContent}
use Rattle.steps.specs.Given.{tag}
use Rattle.steps.specs.Steps.{logic}
use Rattle.redbin.specs.Reading.{content, below, add, is_nonzero}
use Rattle.load.proofs.Filling.{field_add}
use Rattle.load.proofs.filler.Filler.logic.Goals as goal

pub returns : goal.returns
unfolding content
returns c =
    let a = c.args.self.now in
    λ one. record { filled = field_add a.reader _ a.store.now (λ n. below n Record 4 2 BadContent) (λ s n. add s c.args.start.place (tag c.args.start.label) (logic (is_nonzero n))) _ _ _ c.in_ok-n.ensures c.add.ensures; lent = refl }
