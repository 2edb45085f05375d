use Rattle.std.proofs.Common.{◌≡◌, sym, ◌∙◌}
use Rattle.load.specs.Ran.{rest_of, size_of}
use Rattle.load.proofs.Then.{ran_at, here_at}
use Rattle.load.proofs.Tabled.{names_found, name_missed, table_names}
use Rattle.load.proofs.reader.Reader.symbol_table.Goals as goal

pub returns-in-None : goal.returns-in-None
returns-in-None c =
    let r = c.args.self.now in
    let r₂ = c.word-2.new.self in
    let r₃ = c.words.new.self in
    let w₁ = c.in_ok-n.ensures in
    let w₂ = c.in_ok-size.ensures in
    let w₃ = c.in_ok-offsets.ensures.did in
    let w₄ = c.in_ok-strings.ensures.did in
    let f₂ : r₂.file ≡ r.file = w₂.file ∙ w₁.file in
    let f₃ : r₃.file ≡ r.file = w₃.file ∙ f₂ in
    record {
      file = w₄.file ∙ f₃;
      ran = λ e. table_names (size_of r) c.in_ok-n.n c.in_ok-size.size r₂.place _ _ (rest_of r) (rest_of c.word.new.self) (rest_of r₂) (rest_of r₃) (rest_of c.bytes.new.self) e (w₁.ran e)
          (ran_at r _ _ _ _ w₂ w₁.file e) (here_at r r₂ e f₂) (ran_at r r₂ r₃ _ _ w₃ f₂ e) (ran_at r r₃ _ _ _ w₄ f₃ e)
          ∙ names_found _ _ r₂.place _ (sym c.in-None.ensures);
    }

pub returns-in-Some : goal.returns-in-Some
returns-in-Some c =
    let r = c.args.self.now in
    let r₂ = c.word-2.new.self in
    let r₃ = c.words.new.self in
    let w₁ = c.in_ok-n.ensures in
    let w₂ = c.in_ok-size.ensures in
    let w₃ = c.in_ok-offsets.ensures.did in
    let w₄ = c.in_ok-strings.ensures.did in
    let f₂ : r₂.file ≡ r.file = w₂.file ∙ w₁.file in
    let f₃ : r₃.file ≡ r.file = w₃.file ∙ f₂ in
    rw c.at.ensures (record {
      file = w₄.file ∙ f₃;
      ran = λ e. table_names (size_of r) c.in_ok-n.n c.in_ok-size.size r₂.place _ _ (rest_of r) (rest_of c.word.new.self) (rest_of r₂) (rest_of r₃) (rest_of c.bytes.new.self) e (w₁.ran e)
          (ran_at r _ _ _ _ w₂ w₁.file e) (here_at r r₂ e f₂) (ran_at r r₂ r₃ _ _ w₃ f₂ e) (ran_at r r₃ _ _ _ w₄ f₃ e)
          ∙ name_missed _ _ c.in-Some.i r₂.place _ (sym c.in-Some.ensures);
    })
