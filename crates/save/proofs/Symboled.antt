-- The symbol table, name after name.
use Rattle.std.proofs.Common.{◌≡◌, ℕ, suc, ◌+◌, ◌≤◌, List, [], ◌∷◌, Bool, true, false, cond, length, filter, not, take, sym, ap, ◌∙◌, subst, arith, length-append}
use Rattle.std.specs.List.{enumerate_from}
use Rattle.std.proofs.lemmas.List.{length-map}
use Rattle.std.proofs.lemmas.List.FromFn.{length-enumerate_from}
use Rattle.steps.specs.Steps.{Name}
use Rattle.steps.specs.Outline.{Entry}
use Rattle.redbin.specs.Bytes.{bytes_of, words, fields, fill, zeros}
use Rattle.redbin.specs.Canonical.{stored, strings, offsets, symbols}
use Rattle.save.specs.Sinks.{Output, extend, Gained}
use Rattle.save.specs.Names.{listed, in_order}
use Rattle.save.proofs.Outputs.{extend_none, extend_then, gained_then}
use Rattle.save.proofs.Runs.{fields_one}
use Rattle.save.proofs.Stored.{length_stored}
use Rattle.save.proofs.Onces.{fresh_symbols}

zeros_first : (n k : ℕ) → n ≡ 1 + k → zeros n ≡ 0 ∷ zeros k
zeros_first n k e = let d : n ≡ suc k = omega arith in ap zeros d

pub stored_parts : {S : Type 0} (f : S → Output) (s t u : S) (n : Name) (k : ℕ) → k ≡ 1 + fill 8 (length n + 1) → Gained f s n t → Gained f t (zeros k) u → Gained f s (stored n) u
stored_parts f s t u n k e g h = gained_then f s t u n (0 ∷ zeros (fill 8 (length n + 1))) g (subst (λ z. Gained f t z u) (zeros_first k _ e) h)

module _ (o p : Output) (left rest : List Name) where
  -- with the strings that are left the whole was written, also behind one more, and where none is left
  pub strings_next : (n : Name) → left ≡ n ∷ rest → p ≡ extend o (stored n) → extend p (strings rest) ≡ extend o (strings left)
  unfolding strings
  strings_next n e g = extend_then o p (stored n) (strings rest) g ∙ ap (λ ns. extend o (strings ns)) (sym e)

  pub offsets_next : (n : Name) (k j : ℕ) → left ≡ n ∷ rest → j ≡ k + length (stored n) → p ≡ extend o (words (k ∷ [])) → extend p (words (offsets j rest)) ≡ extend o (words (offsets k left))
  unfolding offsets fields
  offsets_next n k j e d g = ap (λ i. extend p (words (offsets i rest))) d ∙ extend_then o p (bytes_of 4 k) (words (offsets (k + length (stored n)) rest)) (g ∙ ap (extend o) (fields_one 4 k)) ∙ ap (λ ns. extend o (words (offsets k ns))) (sym e)

pub strings_end : (o : Output) (left : List Name) → left ≡ [] → extend o (strings left) ≡ o
unfolding strings
strings_end o left e = ap (λ ns. extend o (strings ns)) e ∙ extend_none o

pub offsets_end : (o : Output) (k : ℕ) (left : List Name) → left ≡ [] → extend o (words (offsets k left)) ≡ o
unfolding offsets fields
offsets_end o k left e = ap (λ ns. extend o (words (offsets k ns))) e ∙ extend_none o

-- how long the strings are that are left
pub length_next : (n : Name) (left rest : List Name) → left ≡ n ∷ rest → length (strings left) ≡ length n + (1 + fill 8 (length n + 1)) + length (strings rest)
unfolding strings
length_next n left rest e = ap (λ ns. length (strings ns)) e ∙ omega (arith, length-append (stored n) (strings rest), length_stored n)

-- there are no more symbols than names
filter_few : {X : Type 0} (p : X → Bool) (xs : List X) → length (filter p xs) ≤ length xs
filter_few p [] = omega arith
filter_few p (x ∷ xs) = go (p x) (filter_few p xs) where
  go : (b : Bool) → length (filter p xs) ≤ length xs → length (cond b (x ∷ filter p xs) (filter p xs)) ≤ suc (length xs)
  go true h = omega arith
  go false h = omega arith

pub symbols_few : (all : List Entry) → length (symbols all) ≤ length (in_order all)
symbols_few all =
    let test = λ (p : ℕ × Name). not (listed p.1 (take p.0 (in_order all))) in
    let ps = enumerate_from 0 (in_order all) in
    omega (arith, ap length (fresh_symbols all), length-map (filter test ps) (λ p. p.1), filter_few test ps, length-enumerate_from 0 (in_order all))
