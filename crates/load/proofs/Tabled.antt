-- What a symbol table comes to.
use Rattle.std.proofs.Common.{◌≡◌, ℕ, zero, suc, ◌+◌, ◌*◌, ◌<◌, true, List, [], ◌∷◌, length, get_or, Some, None, Option, sym, refl, ap, ◌∙◌, arith}
use Rattle.refusal.specs.declared.Reason.TheVariants.{BadSymbol, Large}
use Rattle.refusal.specs.declared.Part.TheVariants.{Symbols}
use Rattle.steps.specs.Steps.{Steps, Name}
use Rattle.redbin.specs.Bytes.{number}
use Rattle.redbin.specs.Reading.{Reader, Read, Reads, got, refused, because, after, here, enough, skip, word, run, name_at, name_or_refuse, names_at, symbol_table}
use Rattle.load.specs.Ran.{state, piece}
use Rattle.load.specs.Tables.{is_some, or_empty, names_of}
use Rattle.std.proofs.Common.{not, Bool, false, cond, map, ltb, inl, inr}
use Rattle.std.specs.List.{position, position_or_len}
use Rattle.std.proofs.lemmas.Bool.{cases_lt}
use Rattle.std.proofs.lemmas.Bool.Decides.{nat_tests}
use Rattle.std.proofs.lemmas.List.Sums.{fails_before_first}
use Rattle.std.proofs.lemmas.List.Quantifiers.{position-Some}

pub after_after : {A B C : Type 0} (x : Read A) (f : A → Reads B) (g : B → Reads C) → after (after x f) g ≡ after x (λ a r. after (f a r) g)
unfolding after
after_after (got a r) f g = refl
after_after (refused w) f g = refl

taken : (place : ℕ) (o : Option Name) (r : Reader) → is_some o ≡ true → name_or_refuse place o r ≡ got (or_empty o) r
unfolding name_or_refuse
taken place (Some n) r h = refl
taken place None r h = let z : ◌≡◌ {A = ℕ} 0 1 = cc in absurd (omega arith)

refused_at : (place : ℕ) (o : Option Name) (r : Reader) → is_some o ≡ false → name_or_refuse place o r ≡ refused (because BadSymbol Symbols place)
unfolding name_or_refuse
refused_at place None r h = refl
refused_at place (Some n) r h = let z : ◌≡◌ {A = ℕ} 0 1 = cc in absurd (omega arith)

-- an offset that leads to no name
abbrev pub unnamed : List ℕ → List ℕ → Bool
unnamed strings o = not (is_some (name_at strings (number o)))

turned : (b : Bool) → not b ≡ false → b ≡ true
turned true h = refl
turned false h = absurd cc

untrue : (b : Bool) → not b ≡ true → b ≡ false
untrue false h = refl
untrue true h = absurd cc

none_pass : {X : Type 0} (p : X → Bool) (xs : List X) (d : X) → position p xs ≡ None → (i : ℕ) → i < length xs → p (get_or xs i d) ≡ false
none_pass p xs d h i lt = fails_before_first p xs i d (behind (position_or_len p xs) (length xs) i h lt)
  where
    behind : (m n i : ℕ) → cond (ltb m n) (Some m) None ≡ None → i < n → i < m
    behind m n i h lt = elim (cases_lt m n) [
      | inl l ↦ (let t : ltb m n ≡ true = grind (arith, nat_tests) in absurd (let k : ◌≡◌ {A = Option ℕ} (Some m) None = rw t at h in cc))
      | inr l ↦ omega arith
    ]

module _ (strings : List ℕ) (r : Reader) where
  names_all : (place : ℕ) (offsets : List (List ℕ)) → ((i : ℕ) → i < length offsets → unnamed strings (get_or offsets i []) ≡ false) →
      names_at strings place (map number offsets) r ≡ got (names_of strings (map number offsets)) r
  unfolding names_at names_of after
  names_all place [] all = refl
  names_all place (o ∷ offsets) all =
      let first = turned _ (all 0 (omega arith)) in
      let rest = names_all (place + 4) offsets (λ i lt. all (suc i) (omega arith)) in
      rw (taken place _ r first, rest)

  names_bad : (k place : ℕ) (offsets : List (List ℕ)) → k < length offsets → unnamed strings (get_or offsets k []) ≡ true → ((i : ℕ) → i < k → unnamed strings (get_or offsets i []) ≡ false) →
      names_at strings place (map number offsets) r ≡ refused (because BadSymbol Symbols (place + k * 4))
  unfolding names_at names_of after
  names_bad k place [] lt bad all = absurd (omega arith)
  names_bad zero place (o ∷ offsets) lt bad all =
      let z : place + 0 * 4 ≡ place = omega arith in
      rw (refused_at place _ r (untrue _ bad), z)
  names_bad (suc k) place (o ∷ offsets) lt bad all =
      let first = turned _ (all 0 (omega arith)) in
      let rest = names_bad k (place + 4) offsets (omega arith) bad (λ i i<. all (suc i) (omega arith)) in
      let z : place + 4 + k * 4 ≡ place + suc k * 4 = omega arith in
      rw (taken place _ r first, rest, z)

  pub names_found : (place : ℕ) (offsets : List (List ℕ)) → position (unnamed strings) offsets ≡ None → names_at strings place (map number offsets) r ≡ got (names_of strings (map number offsets)) r
  names_found place offsets h = names_all place offsets (none_pass (unnamed strings) offsets [] h)

  pub name_missed : (k place : ℕ) (offsets : List (List ℕ)) → position (unnamed strings) offsets ≡ Some k → names_at strings place (map number offsets) r ≡ refused (because BadSymbol Symbols (place + k * 4))
  name_missed k place offsets h =
      let p = position-Some (unnamed strings) offsets k [] h in
      names_bad k place offsets p.0 p.1 p.2

module _ (size n m place : ℕ) (os strings x x₁ x₂ x₃ x₄ : List ℕ) (e : Steps) (w₁ : word size Symbols (state x e) ≡ got n (state x₁ e)) (w₂ : word size Symbols (state x₁ e) ≡ got m (state x₂ e)) (h₂ : here size (state x₂ e) ≡ got place (state x₂ e))
    (w₃ : run size Symbols 4 4294967296 Large n (state x₂ e) ≡ got os (state x₃ e)) where
  pub table_names : piece size Symbols m (state x₃ e) ≡ got strings (state x₄ e) → symbol_table size (state x e) ≡ names_at strings place os (state x₄ e)
  unfolding symbol_table after
  table_names h =
      rw (w₁, w₂, h₂, w₃) (sym (after_after (enough size Symbols m (state x₃ e)) (λ _. skip m) (λ strings. names_at strings place os)))
      ∙ ap (λ (r : Read (List ℕ)). after r (λ strings. names_at strings place os)) h

-- the names of some offsets
pub name_in : (strings : List ℕ) (offsets : List (List ℕ)) (i : ℕ) → i < length offsets → get_or (names_of strings (map number offsets)) i [] ≡ or_empty (name_at strings (number (get_or offsets i [])))
unfolding names_of
name_in strings [] i lt = absurd (omega arith)
name_in strings (o ∷ offsets) zero lt = refl
name_in strings (o ∷ offsets) (suc i) lt = name_in strings offsets i (omega arith)

pub length_names : (strings : List ℕ) (offsets : List (List ℕ)) → length (names_of strings (map number offsets)) ≡ length offsets
unfolding names_of
length_names strings [] = refl
length_names strings (o ∷ offsets) = ap suc (length_names strings offsets)
