-- The indexes of an object's names, one inner value after another.
use Rattle.std.proofs.Common.{◌≡◌, ℕ, List, [], ◌∷◌, map, sym, ap, ◌∙◌}
use Rattle.steps.specs.Steps.{Name}
use Rattle.steps.specs.Outline.{Entry, entry_at}
use Rattle.redbin.specs.Bytes.{bytes_of, words, fields}
use Rattle.redbin.specs.Canonical.{index_of}
use Rattle.save.specs.Sinks.{Output, extend}
use Rattle.save.specs.Values.{name_in, names_of}
use Rattle.save.proofs.Outputs.{extend_none, extend_then}
use Rattle.save.proofs.Runs.{fields_one}

-- with what is left all indexes were written, also behind one more, and where none is left
pub indexes_next : (o p : Output) (all : List Entry) (syms : List Name) (left rest : List ℕ) (v : ℕ) (n : Name) → left ≡ v ∷ rest → n ≡ name_in (entry_at all v) → p ≡ extend o (words (index_of syms n ∷ []))
    → extend p (words (map (index_of syms) (names_of all rest))) ≡ extend o (words (map (index_of syms) (names_of all left)))
unfolding fields
indexes_next o p all syms left rest v n e d g =
    extend_then o p (bytes_of 4 (index_of syms n)) (words (map (index_of syms) (names_of all rest))) (g ∙ ap (extend o) (fields_one 4 (index_of syms n)))
    ∙ ap (λ m. extend o (words (index_of syms m ∷ map (index_of syms) (names_of all rest)))) d ∙ ap (λ vs. extend o (words (map (index_of syms) (names_of all vs)))) (sym e)

pub indexes_end : (o : Output) (all : List Entry) (syms : List Name) (left : List ℕ) → left ≡ [] → extend o (words (map (index_of syms) (names_of all left))) ≡ o
unfolding fields
indexes_end o all syms left e = ap (λ vs. extend o (words (map (index_of syms) (names_of all vs)))) e ∙ extend_none o
