use Rattle.std.proofs.Common.{ℕ, refl}
use Rattle.refusal.specs.declared.Part.TheVariants.{Record}
use Rattle.refusal.specs.declared.Reason.TheVariants.{Large}
use Rattle.steps.specs.Given.{tag}
use Rattle.steps.specs.Steps.{float}
use Rattle.steps.specs.Law.{float_end}
use Rattle.document.specs.Standing.{standing}
use Rattle.redbin.specs.Reading.{content, add_float, on_boundary, below, add, ◌>>=◌}
use Rattle.load.specs.Ran.{rest_of}
use Rattle.load.specs.Filled.{with_payload}
use Rattle.load.proofs.Then.{came_then}
use Rattle.load.proofs.filler.Filler.float.Goals as goal

pub returns : goal.returns
unfolding content add_float
returns c =
    let r = c.args.self.now.reader in
    let s = c.double_word.new.self in
    let b = c.args.self.now.store.now in
    let t = c.add.new.store in
    let w = c.in_ok-n.ensures in
    let g = c.add.ensures in
    λ one. record {
      filled = record {
        file = w.file;
        memory = g.memory;
        came = λ k q u.
            let k' = with_payload c.args.payload k in
            let value = λ (n : ℕ). add k' c.args.start.place (tag c.args.start.label) (float n) in
            came_then (on_boundary k') (λ _. below k.size Record 8 float_end Large >>= value) tt (rest_of r) (rest_of r) (rest_of s) (standing b) (standing b) (standing t) _
            (c.in_ok-on_boundary.ensures k' q refl (standing b))
            (came_then (below k.size Record 8 float_end Large) value c.in_ok-n.n (rest_of r) (rest_of s) (rest_of s) (standing b) (standing b) (standing t) _ (rw q (w.ran (standing b))) (g.came k' (rest_of s) u));
      };
      lent = refl;
    }
