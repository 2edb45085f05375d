use Rattle.std.proofs.Common.{sym, ap, ◌∙◌, rules}
use Rattle.steps.specs.declared.parts.Sort.TheVariants.{Put}
use Rattle.steps.specs.Given.{begun}
use Rattle.steps.specs.Build.{sort_of}
use Rattle.steps.proofs.Mapped.{part_behind, sort_mapped}
use Rattle.steps.proofs.item.Item.sort.Goals as goal

pub returns-in-Put : goal.returns-in-Put
returns-in-Put c =
    ap Put (c.map.ensures (part_behind c.args.from) (λ x y p. search rules)) ∙ sort_mapped c.args.from c.in-Put.value
    ∙ ap (λ i. sort_of c.args.from (begun i)) (sym c.in-Put.is)
