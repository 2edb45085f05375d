-- What `find` leaves of an iterator whose state shows what is left.
use Rattle.std.proofs.Common.{◌≡◌, ℕ, zero, suc, ◌+◌, ◌-◌, Bool, true, false, cond, List, [], ◌∷◌, length, filter, Some, None, Option, MatchOption, Bor, take, refl, ap, ◌∙◌, sym, subst, arith}
use Rattle.std.specs.Fn.{CalledAt}
use Rattle.std.specs.List.{FoldsTo, range_with_len, enumerate_from}
use Rattle.std.specs.declared.iter.Enumerate.{Enumerate}
use Rattle.std.specs.declared.iter.Take.{Take}
use Rattle.std.specs.Iterator.Adapters.{enumerate_source, enumerate_count, enumerate_steps, take_source, take_count, take_steps}
use Rattle.std.specs.Iterator.{Yields, YieldsThen, YieldsFirst, YieldsFirstBy, MakesProgress, item_count}
use Rattle.std.specs.declared.ops.Range.{Range}
use Rattle.std.proofs.iter.Yields.{nat_range_steps}
use denote.Param.Members.{Mut}

module _ {S A B F : Type 0} (steps : S → Option A → S → Type 0) (v : A → B) (shown : S → List B)
    (none : (s t : S) → steps s None t → (shown s ≡ []) × (shown t ≡ [])) (some : (s : S) (x : A) (t : S) → steps s (Some x) t → shown s ≡ v x ∷ shown t)
    (g : Mut F (Bor A × Unit {0}) Bool) (test : B → Bool) (f : F) (tests : (x : A) (b : Bool) (q : F) → CalledAt g f x b q → (q ≡ f) × (b ≡ test (v x))) where
  -- the first that passes, and behind it what is left
  abbrev pub Finds : S → Option A → S → Type 0
  Finds s r u = MatchOption r ((filter test (shown s) ≡ []) × (filter test (shown u) ≡ [])) (λ x. filter test (shown s) ≡ v x ∷ filter test (shown u))

  here : (s u : S) (r : Option A) → steps s r u → MatchOption r (Unit {0}) (λ x. (h : F) × CalledAt g f x true h) → Finds s r u
  here s u None e c = let h = none s u e in (ap (filter test) h.0, ap (filter test) h.1)
  here s u (Some x) e c =
      let t : test (v x) ≡ true = sym (tests x true c.0 c.1).1 in
      ap (filter test) (some s x u e) ∙ ap (λ b. cond b (v x ∷ filter test (shown u)) (filter test (shown u))) t

  later : (s j u : S) (r : Option A) (y : A) → steps s (Some y) j → test (v y) ≡ false → Finds j r u → Finds s r u
  later s j u None y e t h = (ap (filter test) (some s y j e) ∙ ap (λ b. cond b (v y ∷ filter test (shown j)) (filter test (shown j))) t ∙ h.0, h.1)
  later s j u (Some x) y e t h = ap (filter test) (some s y j e) ∙ ap (λ b. cond b (v y ∷ filter test (shown j)) (filter test (shown j))) t ∙ h

  walk : (xs : List A) (s u t : S) (r : Option A) (j : F) → Yields steps s xs t → steps t r u → FoldsTo (λ p x q. CalledAt g p x false q) f xs j → MatchOption r (Unit {0}) (λ x. (h : F) × CalledAt g j x true h) → Finds s r u
  walk [] s u t r j y e c m = here s u r (subst (λ z. steps z r u) (sym y) e) (subst (λ k. MatchOption r (Unit {0}) (λ x. (h : F) × CalledAt g k x true h)) (sym c) m)
  walk (x ∷ xs) s u t r j y e c m =
      let q = tests x false c.0 c.1 in
      later s y.0 u r x y.1 (sym q.1) (walk xs y.0 u t r j y.2 e (subst (λ k. FoldsTo (λ p x q. CalledAt g p x false q) k xs j) q.0 c.2) m)

  pub found : (s u : S) (r : Option A) → (xs : List A) × (j : F) × YieldsThen steps s xs r u × FoldsTo (λ p x q. CalledAt g p x false q) f xs j × MatchOption r (Unit {0}) (λ x. (h : F) × CalledAt g j x true h) → Finds s r u
  found s u r d = walk d.0 s u d.2.0 r d.1 d.2.1 d.2.2 d.3 d.4

-- ---- a range

abbrev pub numbers : Range ℕ → List ℕ
numbers s = range_with_len s.start (s.end - s.start)

pub range_none : (s t : Range ℕ) → nat_range_steps s None t → (numbers s ≡ []) × (numbers t ≡ [])
range_none s t h = let n : t.end - t.start ≡ 0 = omega (arith, h.0, h.1.0, h.1.1) in (ap (range_with_len s.start) h.1.0, ap (range_with_len t.start) n)

pub range_some : (s : Range ℕ) (x : ℕ) (t : Range ℕ) → nat_range_steps s (Some x) t → numbers s ≡ x ∷ numbers t
range_some s x t h =
    let n : s.end - s.start ≡ suc (t.end - t.start) = omega (arith, h.0, h.1.0, h.1.2) in
    ap (range_with_len s.start) n ∙ ap (λ a. a ∷ range_with_len (s.start + 1) (t.end - t.start)) (sym h.1.1) ∙ ap (λ b. x ∷ range_with_len b (t.end - t.start)) (sym h.1.2)

-- ---- the first so many

pub taken : {S A : Type 0} (rest : S → List A) (s t : Take S) (r : Option A) → take_steps (YieldsFirst rest) s r t
    → MatchOption r (take (take_count s) (rest (take_source s)) ≡ []) (λ x. take (take_count s) (rest (take_source s)) ≡ x ∷ take (take_count t) (rest (take_source t)))
taken rest s t None h = none (take_count s) refl where
  none : (n : ℕ) → take_count s ≡ n → take n (rest (take_source s)) ≡ []
  none zero e = refl
  none (suc n) e = ap (take (suc n)) (h (omega (arith, e))).0
taken rest s t (Some x) h = let e : take_count s ≡ suc (take_count t) = omega (arith, h.1) in ap (λ n. take n (rest (take_source s))) e ∙ ap (take (suc (take_count t))) h.0

-- ---- an iterator whose state shows what is left ends

pub goes_on : {S A B : Type 0} (v : A → B) (rest : S → List B) (s t : S) (r : Option A) → YieldsFirstBy v rest s r t → MakesProgress (λ _. Unit {0}) (item_count rest) s r t
goes_on v rest s t None h = record { on = λ _. tt; keeps = tt; rests = λ f. f }
goes_on v rest s t (Some x) h = record { on = λ f. (tt, f, omega (arith, ap length h)); keeps = tt; rests = λ f. tt }

-- ---- an iterator that counts, where that counted over shows what is left

module _ {S A B : Type 0} (v : A → B) (rest : S → List B) where
  abbrev pub counts : Enumerate S → Option (ℕ × A) → Enumerate S → Type 0
  counts = enumerate_steps (YieldsFirstBy v rest)

  abbrev pub counted : Enumerate S → List (ℕ × B)
  counted s = enumerate_from (enumerate_count s) (rest (enumerate_source s))

  pub counts_none : (s t : Enumerate S) → counts s None t → (counted s ≡ []) × (counted t ≡ [])
  counts_none s t h = (ap (enumerate_from (enumerate_count s)) h.0.0, ap (enumerate_from (enumerate_count t)) h.0.1)

  pub counts_some : (s : Enumerate S) (p : ℕ × A) (t : Enumerate S) → counts s (Some p) t → counted s ≡ (p.0, v p.1) ∷ counted t
  counts_some s p t h =
      ap (enumerate_from (enumerate_count s)) h.0 ∙ ap (λ k. (k, v p.1) ∷ enumerate_from (enumerate_count s + 1) (rest (enumerate_source t))) (sym h.1) ∙ ap (λ k. (p.0, v p.1) ∷ enumerate_from k (rest (enumerate_source t))) (sym h.2)

  module _ {F : Type 0} (g : Mut F (Bor (ℕ × A) × Unit {0}) Bool) (test : ℕ × B → Bool) (f : F) (tests : (x : ℕ × A) (b : Bool) (q : F) → CalledAt g f x b q → (q ≡ f) × (b ≡ test (x.0, v x.1))) where
    pub counts_found : (s u : Enumerate S) (r : Option (ℕ × A)) → (xs : List (ℕ × A)) × (j : F) × YieldsThen counts s xs r u × FoldsTo (λ p x q. CalledAt g p x false q) f xs j × MatchOption r (Unit {0}) (λ x. (h : F) × CalledAt g j x true h)
        → MatchOption r ((filter test (counted s) ≡ []) × (filter test (counted u) ≡ [])) (λ x. filter test (counted s) ≡ (x.0, v x.1) ∷ filter test (counted u))
    counts_found s u r d = found counts (λ p. (p.0, v p.1)) counted counts_none counts_some g test f tests s u r d

  abbrev total : Enumerate S → ℕ
  total s = enumerate_count s + length (rest (enumerate_source s))

  one_total : (s t : Enumerate S) (r : Option (ℕ × A)) → counts s r t → total t ≡ total s
  one_total s t None h = omega (arith, h.1, ap length h.0.0, ap length h.0.1)
  one_total s t (Some p) h = omega (arith, h.2, ap length h.0)

  yields_total : (xs : List (ℕ × A)) (s t : Enumerate S) → Yields counts s xs t → total t ≡ total s
  yields_total [] s t y = ap total (sym y)
  yields_total (x ∷ xs) s t y = yields_total xs y.0 t y.2 ∙ one_total s y.0 (Some x) y.1

  -- how many there are in all stays the same
  pub same_total : (s u : Enumerate S) (r : Option (ℕ × A)) (xs : List (ℕ × A)) → YieldsThen counts s xs r u → total u ≡ total s
  same_total s u r xs y = one_total y.0 u r y.2 ∙ yields_total xs s y.0 y.1
