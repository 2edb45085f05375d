use Rattle.std.proofs.Common.{◌≡◌, ◌+◌, ◌<◌, min, length, take, refl, ap, ◌∙◌, arith, length-drop}
use Rattle.std.proofs.lemmas.List.{take_more_set}
use Rattle.steps.specs.Law.{points, usable}
use Rattle.steps.specs.Items.{room, lent, free}
use Rattle.steps.specs.Build.{steps}
use Rattle.document.specs.Stands.{used_of, lent_of}
use Rattle.document.specs.Standing.{in_use, memory_lent}
use Rattle.steps.proofs.Piled.{fits}
use Rattle.document.proofs.Checked.{agrees}
use Rattle.document.proofs.Adding.{with_points, same_memory, stands_same}
use Rattle.document.proofs.store.Store.write_codepoint.Goals as goal

pub write_free-requires : goal.write_free-requires
write_free-requires c =
    let s = c.args.self.now in
    let q : room s.codepoints ≡ usable (memory_lent s) points = ap (min (lent s.codepoints)) s.points_bound in
    omega (arith, q, (agrees s).points_used, c.requires)

pub invariant_of-self : goal.invariant_of-self
invariant_of-self c =
    let s = c.args.self.now in
    let ps = c.write_free.new.self in
    let w = c.write_free.ensures in
    record {
      cells_bound = s.cells_bound;
      points_bound = w.sized.1 ∙ s.points_bound;
      names_bound = s.names_bound;
      stands = stands_same (memory_lent s) (lent_of s.cells ps s.names) (in_use s) (used_of s.cells ps s.names s.innermost s.depth) s.stands
          (ap (with_points s) w.items) (same_memory s.cells s.cells s.codepoints ps s.names s.names (refl, refl) w.sized (refl, refl));
    }

pub returns : goal.returns
returns c =
    let s = c.args.self.now in
    let w = c.write_free.ensures in
    let q : room s.codepoints ≡ usable (memory_lent s) points = ap (min (lent s.codepoints)) s.points_bound in
    let f = fits s.codepoints (c.args.at + 1) (omega (arith, q, (agrees s).points_used, c.requires)) in
    let l : c.args.at < length (free s.codepoints) = omega (arith, length-drop s.codepoints.used s.codepoints.memory.now, f.0) in
    record {
      memory = same_memory s.cells s.cells s.codepoints c.write_free.new.self s.names s.names (refl, refl) w.sized (refl, refl);
      told = ap (λ ps. steps (with_points s ps)) w.items;
      written = ap (take (c.args.at + 1)) w.free ∙ take_more_set (free s.codepoints) c.args.at c.args.point l;
    }
