use Rattle.std.proofs.Common.{◌≡◌, ◌%◌, true, false, eqb, length, sym, ap, ◌∙◌, arith}
use Rattle.std.proofs.lemmas.Bool.Decides.{nat_tests}
use Rattle.redbin.specs.Reading.{after, heading_of, behind_padding, heading}
use Rattle.load.specs.Ran.{rest_of}
use Rattle.load.proofs.Fields.{place_at}
use Rattle.load.proofs.Headings.{heading_starts}
use Rattle.load.proofs.Then.{ran_by}
use Rattle.load.proofs.reader.Reader.heading.Goals as goal

pub returns-then-type_in-eq-PADDING_TYPE : goal.returns-then-type_in-eq-PADDING_TYPE
unfolding after
returns-then-type_in-eq-PADDING_TYPE c =
    let r = c.args.self.now in
    let w = c.in_ok-header.ensures in
    let z : eqb (c.in_ok-header.header % 256) 0 ≡ true = grind (arith, nat_tests) in
    record {
      file = c.behind_padding.ensures.file ∙ w.file;
      ran = λ s q. ran_by (heading s) (behind_padding s r.place c.in_ok-header.header) (rest_of r) (rest_of c.any_word.new.self) _ _
          (λ e. heading_starts s _ e ∙ rw (q, place_at r.file.now r.place r.within, w.ran e, z))
          (c.behind_padding.ensures.ran s (q ∙ ap (λ (x : _). length x.now) (sym w.file)));
    }

pub returns-else-type_in-eq-PADDING_TYPE : goal.returns-else-type_in-eq-PADDING_TYPE
unfolding after
returns-else-type_in-eq-PADDING_TYPE c =
    let r = c.args.self.now in
    let w = c.in_ok-header.ensures in
    let z : eqb (c.in_ok-header.header % 256) 0 ≡ false = grind (arith, nat_tests) in
    record {
      file = w.file;
      ran = λ s q. ran_by (heading s) (heading_of s r.place c.in_ok-header.header) (rest_of r) (rest_of c.any_word.new.self) _ _
          (λ e. heading_starts s _ e ∙ rw (q, place_at r.file.now r.place r.within, w.ran e, z))
          (c.heading_of.ensures s _);
    }
