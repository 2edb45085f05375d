use Rattle.std.proofs.Common.{◌≡◌, ◌+◌, ◌≤◌, ◌∷◌, length, min, sym, ap, ◌∙◌, subst, arith}
use Rattle.steps.specs.Given.{tag, begun}
use Rattle.steps.specs.Steps.{begin}
use Rattle.steps.specs.Law.{Memory, points, used, usable, refusal, codepoints_of}
use Rattle.steps.specs.Items.{room}
use Rattle.steps.specs.Build.{sort_of}
use Rattle.document.specs.Standing.{standing, memory_lent}
use Rattle.document.proofs.Checked.{agrees}
use Rattle.document.proofs.Adding.{roomy, few, next_laid}
use Rattle.document.proofs.store.Store.add.Goals as goal

pub sort-sort-requires : goal.sort-sort-requires
sort-sort-requires c =
    let s = c.args.self.now in
    let b = begun c.args.item in
    let r = roomy s (tag c.args.label) b c.requires in
    omega (arith, few s.codepoints (length (codepoints_of b)) r.point)

pub copy_codepoints-requires : goal.copy_codepoints-requires
copy_codepoints-requires c =
    let s = c.args.self.now in
    let r = roomy s (tag c.args.label) (begun c.args.item) c.requires in
    let q : room s.codepoints ≡ usable (memory_lent s) points = ap (λ n. min (memory_lent s points) n) s.points_bound in
    subst (λ ps. used (standing s) points + length ps ≤ usable (memory_lent s) points) (sym c.codepoints.ensures) (omega (arith, q, (agrees s).points_used, r.point))

pub add_cell-requires : goal.add_cell-requires
add_cell-requires c =
    let s = c.args.self.now in
    let u = c.copy_codepoints.new.self in
    let l = tag c.args.label in
    let b = begun c.args.item in
    let g = c.copy_codepoints.ensures in
    let e = c.sort-sort.ensures in
    let is = next_laid u c.count.result c.sort-sort.result b c.codepoints.result.now e c.codepoints.ensures g.laid in
    record {
      placed = e ∙ ap (λ n. sort_of n b) (c.count.ensures ∙ (agrees s).points_used) ∙ ap (λ x. sort_of (used x points) b) (sym g.told) ∙ ap (sort_of (used (standing u) points)) (sym is);
      lawful = ap (λ x. refusal (memory_lent u) (standing u) (begin l x)) is ∙ ap (λ x. refusal (memory_lent u) x (begin l b)) g.told ∙ ap (λ (m : Memory). refusal m (standing s) (begin l b)) g.memory ∙ c.requires;
    }

pub returns : goal.returns
returns c =
    let u = c.copy_codepoints.new.self in
    let l = tag c.args.label in
    let b = begun c.args.item in
    let g = c.copy_codepoints.ensures in
    let is = next_laid u c.count.result c.sort-sort.result b c.codepoints.result.now c.sort-sort.ensures c.codepoints.ensures g.laid in
    record { memory = c.add_cell.ensures.memory ∙ g.memory; told = c.add_cell.ensures.told ∙ ap (λ x. begin l x ∷ standing u) is ∙ ap (λ e. begin l b ∷ e) g.told }
