-- Without memory, only the number of bytes matters.
use Rattle.std.proofs.Common.{◌≡◌, ℕ, ◌+◌, ◌-◌, ◌≤◌, Bool, true, false, cond, ltb, List, [], ◌∷◌, length, take, drop, set, sym, refl, ap, ◌∙◌, subst, inl, inr, arith, length-set}
use Rattle.std.proofs.lemmas.List.{take-set-le, drop-set-add}
use Rattle.steps.specs.Steps.{Name}
use Rattle.steps.specs.Utf8.{no_zero}
use Rattle.redbin.specs.Bytes.{words}
use Rattle.redbin.specs.Canonical.{strings, index_of}
use Rattle.redbin.proofs.Fields.{length_fields}
use Rattle.save.specs.Sinks.{Output, full, push, extend, Gained}
use Rattle.save.specs.Symbols.{Clean, Tabled, Ready, Indexed}

set_none : (m : List ℕ) (i a b : ℕ) → m ≡ [] → set m i a ≡ set m i b
set_none m i a b e = ap (λ x. set x i a) e ∙ sym (ap (λ x. set x i b) e)

push_none : (o : Output) (a b : ℕ) → o.memory ≡ [] → push o a ≡ push o b
push_none o a b e = ap (λ m. cond (ltb o.size full) (record { home = o.home; size = o.size + 1; memory = m }) o) (set_none o.memory o.size a b e)

push_still : (o : Output) (a : ℕ) → o.memory ≡ [] → (push o a).memory ≡ []
push_still o a e = go (ltb o.size full) where
  go : (t : Bool) → (cond t (record { home = o.home; size = o.size + 1; memory = set o.memory o.size a }) o).memory ≡ []
  go true = ap (λ m. set m o.size a) e
  go false = e

pub blind : (o : Output) (xs ys : List ℕ) → o.memory ≡ [] → length xs ≡ length ys → extend o xs ≡ extend o ys
unfolding extend
blind o [] [] e l = refl
blind o [] (y ∷ ys) e l = absurd (omega arith)
blind o (x ∷ xs) [] e l = absurd (omega arith)
blind o (x ∷ xs) (y ∷ ys) e l = blind (push o x) xs ys (push_still o x e) (omega arith) ∙ ap (λ p. extend p ys) (push_none o x y e)

pub extend_still : (o : Output) (xs : List ℕ) → o.memory ≡ [] → (extend o xs).memory ≡ []
unfolding extend
extend_still o [] e = e
extend_still o (x ∷ xs) e = extend_still (push o x) xs (push_still o x e)

blind_word : (o : Output) (i j : ℕ) → o.memory ≡ [] → extend o (words (i ∷ [])) ≡ extend o (words (j ∷ []))
blind_word o i j e = blind o (words (i ∷ [])) (words (j ∷ [])) e (length_fields 4 (i ∷ []) ∙ sym (length_fields 4 (j ∷ [])))

pub indexed_blind : (o : Output) (start end : ℕ) (name : Name) (i : ℕ) → o.memory ≡ [] → Indexed o start end name i
indexed_blind o start end name i e = λ names r z. blind_word o i _ e

-- looked up where the strings stand
pub indexed_found : (o : Output) (start end : ℕ) (name : Name) (i : ℕ) (bytes : List ℕ) → bytes ≡ take (end - start) (drop start o.memory)
    → ((names : List Name) → bytes ≡ strings names → Clean names → no_zero name ≡ true → i ≡ index_of names name) → Indexed o start end name i
indexed_found o start end name i bytes e h names (inl b) z = blind_word o i _ b
indexed_found o start end name i bytes e h names (inr t) z = ap (λ j. extend o (words (j ∷ []))) (h names (e ∙ t.stands) t.clean z)

-- no strings stand at places that are out of order
pub indexed_off : (o : Output) (start end : ℕ) (name : Name) (i : ℕ) → (start ≤ end → end ≤ length o.memory → ⊥) → Indexed o start end name i
indexed_off o start end name i h names (inl b) z = blind_word o i _ b
indexed_off o start end name i h names (inr t) z = absurd (h t.ordered t.inside)

-- ---- more bytes leave the strings where they stand

part_set : (m : List ℕ) (start end i b : ℕ) → start ≤ end → end ≤ i → take (end - start) (drop start (set m i b)) ≡ take (end - start) (drop start m)
part_set m start end i b l h =
    let e : start + (i - start) ≡ i = omega arith in
    ap (λ j. take (end - start) (drop start (set m j b))) (sym e) ∙ ap (take (end - start)) (drop-set-add start m (i - start) b) ∙ take-set-le (end - start) (drop start m) (i - start) b (omega arith)

tabled_push : (o : Output) (start end b : ℕ) (names : List Name) → Tabled o start end names → Tabled (push o b) start end names
tabled_push o start end b names t = go (ltb o.size full) where
  go : (k : Bool) → Tabled (cond k (record { home = o.home; size = o.size + 1; memory = set o.memory o.size b }) o) start end names
  go true =
      record {
        clean = t.clean;
        ordered = t.ordered;
        inside = omega (arith, t.inside, length-set o.memory o.size b);
        low = t.low;
        behind = omega (arith, t.behind);
        stands = part_set o.memory start end o.size b t.ordered t.behind ∙ t.stands;
      }
  go false = t

pub tabled_extend : (o : Output) (xs : List ℕ) (start end : ℕ) (names : List Name) → Tabled o start end names → Tabled (extend o xs) start end names
unfolding extend
tabled_extend o [] start end names t = t
tabled_extend o (x ∷ xs) start end names t = tabled_extend (push o x) xs start end names (tabled_push o start end x names t)

pub ready_extend : (o : Output) (xs : List ℕ) (start end : ℕ) (names : List Name) → Ready o start end names → Ready (extend o xs) start end names
ready_extend o xs start end names (inl e) = inl (extend_still o xs e)
ready_extend o xs start end names (inr t) = inr (tabled_extend o xs start end names t)

pub ready_gained : {S : Type 0} (f : S → Output) (s t : S) (xs : List ℕ) (start end : ℕ) (names : List Name) → Gained f s xs t → Ready (f s) start end names → Ready (f t) start end names
ready_gained f s t xs start end names g r = subst (λ o. Ready o start end names) (sym g) (ready_extend (f s) xs start end names r)
