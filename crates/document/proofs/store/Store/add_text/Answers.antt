use Rattle.std.proofs.Common.{ℕ, sym, ap, ◌∙◌}
use Rattle.steps.specs.declared.parts.Sort.{Sort}
use Rattle.steps.specs.declared.parts.Content.TheVariants.{Text}
use Rattle.steps.specs.declared.parts.Sort.TheVariants.{Put}
use Rattle.steps.specs.Law.{used, points}
use Rattle.document.specs.Standing.{standing}
use Rattle.document.proofs.Checked.{agrees}
use Rattle.document.proofs.store.Store.add_text.Goals as goal

pub add_cell-requires-clause-placed : goal.add_cell-requires-clause-placed
add_cell-requires-clause-placed c =
    let s = c.args.self.now in
    let made : ℕ → ℕ → Sort = λ start len. Put (Text c.args.kind c.args.head (record { start = start; len = len })) in
    ap (λ n. made n c.args.count) (c.count.ensures ∙ (agrees s).points_used) ∙ ap (made (used (standing s) points)) (sym c.requires.counted)
