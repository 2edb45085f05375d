-- The parts of a file.
use Rattle.std.proofs.Common.{◌≡◌, ℕ, suc, ◌+◌, ◌<◌, ◌≤◌, min, Bool, true, false, cond, ltb, List, [], ◌∷◌, ◌++◌, length, take, drop, set, sym, refl, ap, ◌∙◌, subst, append_assoc, zero-add, arith, length-set}
use Rattle.std.proofs.lemmas.List.{take_more_set, drop-set-lt, take-append-drop}
use Rattle.steps.specs.Steps.{Name}
use Rattle.redbin.specs.Bytes.{words}
use Rattle.redbin.specs.Layout.{letters, version}
use Rattle.redbin.specs.Canonical.{strings, offsets, table}
use Rattle.save.specs.Sinks.{Output, full, push, extend, Gained}
use Rattle.save.proofs.Outputs.{gained_none, gained_then, size_extend, push_low}
use Rattle.save.proofs.Runs.{fields_then}

pub headed : {S : Type 0} (f : S → Output) (s t u v : S) (flag roots size : ℕ) → Gained f s letters t → Gained f t (version ∷ flag ∷ []) u → Gained f u (words (roots ∷ size ∷ [])) v
    → Gained f s (letters ++ (version ∷ flag ∷ words (roots ∷ size ∷ []))) v
headed f s t u v flag roots size g h k = gained_then f s t v letters _ g (gained_then f t u v (version ∷ flag ∷ []) (words (roots ∷ size ∷ [])) h k)

-- what was counted from nothing
pub counted : (f : Output) (o : Output) (xs : List ℕ) (n m : ℕ) → o ≡ extend f xs → f.size ≡ 0 → n ≡ o.size → n ≡ min (length xs) full
counted f o xs n m e z s = s ∙ ap (λ p. p.size) e ∙ size_extend f xs (omega arith) ∙ ap (λ k. min (k + length xs) full) z ∙ omega arith

table_some : (ns : List Name) → 0 < length ns → table ns ≡ words (length ns ∷ length (strings ns) ∷ offsets 0 ns) ++ strings ns
table_some [] l = absurd (omega arith)
table_some (n ∷ ns) l = refl

table_none : (ns : List Name) → length ns ≤ 0 → table ns ≡ []
table_none [] l = refl
table_none (n ∷ ns) l = absurd (omega arith)

module _ {S : Type 0} (f : S → Output) (ns : List Name) where
  pub tabled_some : (s t u v : S) (count size : ℕ) → 0 < count → count ≡ length ns → size ≡ length (strings ns) → Gained f s (words (count ∷ size ∷ [])) t → Gained f t (words (offsets 0 ns)) u
      → Gained f u (strings ns) v → Gained f s (table ns) v
  tabled_some s t u v count size l c e g h k =
      let w : Gained f s (words (length ns ∷ length (strings ns) ∷ [])) t = subst (λ x. Gained f s (words (x ∷ length (strings ns) ∷ [])) t) c (subst (λ x. Gained f s (words (count ∷ x ∷ [])) t) e g) in
      subst (λ xs. Gained f s xs v) (sym (table_some ns (omega arith)))
      (gained_then f s u v _ _ (fields_then f 4 s t u (length ns ∷ length (strings ns) ∷ []) (offsets 0 ns) w h) k)

  pub tabled_none : (s : S) (count : ℕ) → count ≤ 0 → count ≡ length ns → Gained f s (table ns) s
  tabled_none s count l c = subst (λ xs. Gained f s xs s) (sym (table_none ns (omega arith))) (gained_none f s)

-- ---- bytes that fit

pub extend_fits : (o : Output) (xs : List ℕ) → o.size + length xs ≤ full → o.size + length xs ≤ length o.memory
    → extend o xs ≡ record { home = o.home; size = o.size + length xs; memory = take o.size o.memory ++ (xs ++ drop (o.size + length xs) o.memory) }
unfolding extend
extend_fits o [] l m =
    let e : o.size ≡ o.size + 0 = omega arith in
    ap (λ k. record { home = o.home; size = k; memory = o.memory }) e
    ∙ ap (λ ms. record { home = o.home; size = o.size + 0; memory = ms }) (sym (take-append-drop o.size o.memory) ∙ ap (λ k. take o.size o.memory ++ drop k o.memory) e)
extend_fits o (x ∷ xs) l m =
    let n = o.size in
    let p : Output = record { home = o.home; size = n + 1; memory = set o.memory n x } in
    let a : n + 1 + length xs ≡ n + suc (length xs) = omega arith in
    let t : take (n + 1) (set o.memory n x) ≡ take n o.memory ++ x ∷ [] = take_more_set o.memory n x (omega arith) in
    let d : drop (n + 1 + length xs) (set o.memory n x) ≡ drop (n + suc (length xs)) o.memory = drop-set-lt (n + 1 + length xs) o.memory n x (omega arith) ∙ ap (λ k. drop k o.memory) a in
    let q : take (n + 1) (set o.memory n x) ++ (xs ++ drop (n + 1 + length xs) (set o.memory n x)) ≡ take n o.memory ++ (x ∷ xs ++ drop (n + suc (length xs)) o.memory) =
    ap (λ ys. ys ++ (xs ++ drop (n + 1 + length xs) (set o.memory n x))) t ∙ append_assoc (take n o.memory) (x ∷ []) _ ∙ ap (λ ys. take n o.memory ++ x ∷ (xs ++ ys)) d in
    ap (λ r. extend r xs) (push_low o x (omega arith)) ∙ extend_fits p xs (omega arith) (omega (arith, length-set o.memory n x))
    ∙ ap (λ k. record { home = o.home; size = k; memory = take (n + 1) (set o.memory n x) ++ (xs ++ drop (n + 1 + length xs) (set o.memory n x)) }) a
    ∙ ap (λ ms. record { home = o.home; size = n + suc (length xs); memory = ms }) q

pub fits_memory : (o : Output) (xs : List ℕ) → o.size ≡ 0 → length xs ≤ full → length xs ≤ length o.memory → (extend o xs).memory ≡ xs ++ drop (length xs) o.memory
fits_memory o xs z l m =
    ap (λ p. p.memory) (extend_fits o xs (omega arith) (omega arith)) ∙ ap (λ k. take k o.memory ++ (xs ++ drop (k + length xs) o.memory)) z ∙ ap (λ k. xs ++ drop k o.memory) (zero-add (length xs))

pub home_extend : (o : Output) (xs : List ℕ) → (extend o xs).home ≡ o.home
unfolding extend
home_extend o [] = refl
home_extend o (x ∷ xs) = home_extend (push o x) xs ∙ go (ltb o.size full) where
  go : (t : Bool) → (cond t (record { home = o.home; size = o.size + 1; memory = set o.memory o.size x }) o).home ≡ o.home
  go true = refl
  go false = refl

pub memory_length : (o : Output) (xs : List ℕ) → length (extend o xs).memory ≡ length o.memory
unfolding extend
memory_length o [] = refl
memory_length o (x ∷ xs) = memory_length (push o x) xs ∙ go (ltb o.size full) where
  go : (t : Bool) → length (cond t (record { home = o.home; size = o.size + 1; memory = set o.memory o.size x }) o).memory ≡ length o.memory
  go true = length-set o.memory o.size x
  go false = refl
