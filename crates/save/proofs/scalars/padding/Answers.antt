use Rattle.std.proofs.Common.{◌-◌, ◌%◌, sym, ap, ◌∙◌}
use Rattle.save.proofs.Recorded.{padded, unpadded}
use Rattle.save.proofs.scalars.padding.Goals as goal

pub returns-then-size-start-eq0 : goal.returns-then-size-start-eq0
returns-then-size-start-eq0 g c = λ place p. c.words.ensures ∙ padded _ c.args.start place c.requires p (ap (λ n. (n - c.args.start) % 8) (sym c.size.ensures) ∙ c.if-size-start-eq0.true)

pub returns-else-size-start-eq0 : goal.returns-else-size-start-eq0
returns-else-size-start-eq0 g c = λ place p. unpadded _ c.args.start place c.requires p (λ q. c.if-size-start-eq0.false (ap (λ n. (n - c.args.start) % 8) c.size.ensures ∙ q))
