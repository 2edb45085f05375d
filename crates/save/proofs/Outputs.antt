-- What more bytes leave.
use Rattle.std.proofs.Common.{◌≡◌, ℕ, ◌+◌, ◌<◌, ◌≤◌, min, true, false, ltb, List, [], ◌∷◌, ◌++◌, length, get_or, take, set, sym, refl, ap, ◌∙◌, ⊎_elim, arith}
use Rattle.std.proofs.lemmas.Bool.{lt-ltb, le-ltb, cases_lt}
use Rattle.std.proofs.lemmas.List.{take_more, replicate_more}
use Rattle.redbin.specs.Bytes.{zeros}
use Rattle.save.specs.Sinks.{Output, full, push, extend, Gained}

pub extend_append : (o : Output) (xs ys : List ℕ) → extend o (xs ++ ys) ≡ extend (extend o xs) ys
unfolding extend
extend_append o [] ys = refl
extend_append o (x ∷ xs) ys = extend_append (push o x) xs ys

pub extend_none : (o : Output) → extend o [] ≡ o
unfolding extend
extend_none o = refl

-- more bytes behind the first ones
pub extend_then : (o p : Output) (xs ys : List ℕ) → p ≡ extend o xs → extend p ys ≡ extend o (xs ++ ys)
extend_then o p xs ys e = ap (λ q. extend q ys) e ∙ sym (extend_append o xs ys)

module _ {S : Type 0} (f : S → Output) where
  pub gained_none : (s : S) → Gained f s [] s
  gained_none s = sym (extend_none (f s))

  pub gained_then : (s t u : S) (xs ys : List ℕ) → Gained f s xs t → Gained f t ys u → Gained f s (xs ++ ys) u
  gained_then s t u xs ys g h = h ∙ ap (λ o. extend o ys) g ∙ sym (extend_append (f s) xs ys)

pub push_low : (o : Output) (b : ℕ) → o.size < full → push o b ≡ record { home = o.home; size = o.size + 1; memory = set o.memory o.size b }
push_low o b h = let e : ltb o.size full ≡ true = lt-ltb _ _ h in rw e

pub push_full : (o : Output) (b : ℕ) → full ≤ o.size → push o b ≡ o
push_full o b h = let e : ltb o.size full ≡ false = le-ltb _ _ h in rw e

module _ {S : Type 0} (f : S → Output) where
  pub gained_push : (s t u : S) (xs : List ℕ) (b : ℕ) → Gained f s xs t → f u ≡ push (f t) b → Gained f s (xs ++ b ∷ []) u
  unfolding extend
  gained_push s t u xs b g h = gained_then f s t u xs (b ∷ []) g h

  pub gained_more : (s t u : S) (i b : ℕ) (xs : List ℕ) → i < length xs → b ≡ get_or xs i 0 → Gained f s (take i xs) t → f u ≡ push (f t) b → Gained f s (take (i + 1) xs) u
  gained_more s t u i b xs l e g h = rw (take_more xs i 0 l, ← e) (gained_push s t u (take i xs) b g h)

  pub zeros_more : (s t u : S) (n : ℕ) → Gained f s (zeros n) t → f u ≡ push (f t) 0 → Gained f s (zeros (n + 1)) u
  zeros_more s t u n g h = rw (← replicate_more {X = ℕ} n 0) (gained_push s t u (zeros n) 0 g h)

-- where the output is full nothing changes
pub extend_full : (o : Output) (xs : List ℕ) → full ≤ o.size → extend o xs ≡ o
unfolding extend
extend_full o [] h = refl
extend_full o (x ∷ xs) h = ap (λ p. extend p xs) (push_full o x h) ∙ extend_full o xs h

-- how many bytes have gone there then
pub size_extend : (o : Output) (xs : List ℕ) → o.size ≤ full → (extend o xs).size ≡ min (o.size + length xs) full
unfolding extend
size_extend o [] h = omega arith
size_extend o (x ∷ xs) h = ⊎_elim
    (λ l. let p = push_low o x l in ap (λ q. (extend q xs).size) p ∙ size_extend (record { home = o.home; size = o.size + 1; memory = set o.memory o.size x }) xs (omega arith) ∙ omega arith)
    (λ l. ap (λ q. (extend q xs).size) (push_full o x l) ∙ ap (λ q. q.size) (extend_full o xs l) ∙ omega arith)
    (cases_lt o.size full)
