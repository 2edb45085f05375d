use Rattle.std.proofs.Common.{◌≡◌, min, refl, ap, ◌∙◌, arith}
use Rattle.steps.specs.Law.{points, usable}
use Rattle.steps.specs.Items.{room, lent}
use Rattle.steps.specs.Build.{steps}
use Rattle.document.specs.Stands.{used_of, lent_of}
use Rattle.document.specs.Standing.{in_use, memory_lent}
use Rattle.document.proofs.Checked.{agrees}
use Rattle.document.proofs.Adding.{with_points, same_memory, stands_same}
use Rattle.document.proofs.store.Store.copy_codepoints.Goals as goal

pub copy_free-requires : goal.copy_free-requires
copy_free-requires c =
    let s = c.args.self.now in
    let q : room s.codepoints ≡ usable (memory_lent s) points = ap (min (lent s.codepoints)) s.points_bound in
    omega (arith, q, (agrees s).points_used, c.requires)

pub invariant_of-self : goal.invariant_of-self
invariant_of-self c =
    let s = c.args.self.now in
    let ps = c.copy_free.new.self in
    let w = c.copy_free.ensures in
    record {
      cells_bound = s.cells_bound;
      points_bound = w.sized.1 ∙ s.points_bound;
      names_bound = s.names_bound;
      stands = stands_same (memory_lent s) (lent_of s.cells ps s.names) (in_use s) (used_of s.cells ps s.names s.innermost s.depth) s.stands
          (ap (with_points s) w.items) (same_memory s.cells s.cells s.codepoints ps s.names s.names (refl, refl) w.sized (refl, refl));
    }

pub returns : goal.returns
returns c =
    let s = c.args.self.now in
    let w = c.copy_free.ensures in
    record {
      memory = same_memory s.cells s.cells s.codepoints c.copy_free.new.self s.names s.names (refl, refl) w.sized (refl, refl);
      told = ap (λ ps. steps (with_points s ps)) w.items;
      laid = w.free;
    }
