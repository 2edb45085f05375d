use Rattle.std.proofs.Common.{sym, ap, ◌∙◌, rules}
use Rattle.steps.specs.Given.{content}
use Rattle.steps.specs.Steps.{put}
use Rattle.steps.specs.Build.{begun_with}
use Rattle.steps.proofs.Mapped.{begun_mapped}
use Rattle.steps.proofs.parts.Sort.item.Goals as goal

pub returns-in-Put : goal.returns-in-Put
returns-in-Put c =
    let ps = c.args.codepoints in
    ap (λ v. put (content v)) (c.map.ensures (λ s. ps) (λ x y p. search rules)) ∙ begun_mapped c.in-Put.value ps
    ∙ ap (λ s. begun_with s ps.now) (sym c.in-Put.is)
