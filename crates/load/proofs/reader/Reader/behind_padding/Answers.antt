use Rattle.std.proofs.Common.{◌≡◌, true, eqb, ◌∙◌, arith}
use Rattle.std.proofs.lemmas.Bool.Decides.{nat_tests}
use Rattle.redbin.specs.Reading.{after, heading_of, behind_padding}
use Rattle.load.specs.Ran.{rest_of}
use Rattle.load.proofs.Fields.{place_at}
use Rattle.load.proofs.Headings.{padding_next}
use Rattle.load.proofs.Then.{ran_by}
use Rattle.load.proofs.reader.Reader.behind_padding.Goals as goal

pub returns : goal.returns
unfolding after
returns c =
    let r = c.args.self.now in
    let z : eqb c.args.header 0 ≡ true = grind (arith, nat_tests) in
    let w = c.in_ok-any_word.ensures in
    record {
      file = w.file;
      ran = λ s q. ran_by (behind_padding s c.args.place c.args.header) (heading_of s r.place c.in_ok-any_word.field-0) (rest_of r) (rest_of c.any_word.new.self) _ _
          (λ e. padding_next s _ _ _ e c.if-not-float_follows.ensures z ∙ rw (q, place_at r.file.now r.place r.within, w.ran e))
          (c.heading_of.ensures s _);
    }
