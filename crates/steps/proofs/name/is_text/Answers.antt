use Rattle.std.proofs.Common.{sym, ◌∙◌, rules}
use Rattle.std.proofs.lemmas.List.{take_rest}
use Rattle.steps.proofs.Texts.{at_one, at_two, at_three, at_four}
use Rattle.steps.proofs.name.is_text.Goals as goal

pub loop-left-preserved-in-len1-up : goal.loop-left-preserved-in-len1-up
loop-left-preserved-in-len1-up c =
    rw take_rest (sym (at_one c.loop-left.left.now (search rules) (sym c.if-is_one.ensures)) ∙ c.loop-left.invariant)

pub loop-left-preserved-in-len2-up : goal.loop-left-preserved-in-len2-up
loop-left-preserved-in-len2-up c =
    rw take_rest (sym (at_two c.loop-left.left.now (search rules) (sym c.if-is_one.ensures) (sym c.if-is_two.ensures)) ∙ c.loop-left.invariant)

pub loop-left-preserved-in-len3-up : goal.loop-left-preserved-in-len3-up
loop-left-preserved-in-len3-up c =
    rw take_rest (sym (at_three c.loop-left.left.now (search rules) (sym c.if-is_one.ensures) (sym c.if-is_two.ensures) (sym c.if-is_three.ensures)) ∙ c.loop-left.invariant)

pub loop-left-preserved : goal.loop-left-preserved
loop-left-preserved c =
    rw take_rest (sym (at_four c.loop-left.left.now (search rules) (sym c.if-is_one.ensures) (sym c.if-is_two.ensures) (sym c.if-is_three.ensures) (sym c.if-is_four.ensures)) ∙ c.loop-left.invariant)
