-- Strings, one name after another.
use Rattle.std.proofs.Common.{◌≡◌, ℕ, zero, suc, ◌+◌, ◌-◌, ◌*◌, ◌/◌, ◌<◌, ◌≤◌, Bool, true, false, not, cond, eqb, ltb, ◌&&◌, List, [], ◌∷◌, ◌++◌, map, length, get_or, take, drop, Some, None, Option, Bor, sym, refl, ap, ◌∙◌, subst, add-one, append_assoc, arith, length-append}
use Rattle.std.specs.Option.{option_eq, option_copied, unwrap_or}
use Rattle.std.specs.List.{position_or_len, prefix_len}
use Rattle.std.specs.Simd.{first_chunks}
use Rattle.std.specs.Slice.{IsGetResult}
use Rattle.std.specs.Slice.Iter.{chunks_exact_rest, chunks_exact_size, chunks_exact_steps}
use Rattle.std.specs.Iterator.{AlwaysYields}
use Rattle.std.specs.declared.slice.ChunksExact.{ChunksExact}
use Rattle.std.proofs.lemmas.Iterator.{YieldsList}
use lib.ListN.{length-replicate}
use Rattle.std.proofs.lemmas.Bool.{and_parts, ltb-true, lt-ltb, ne_eqb, eq-eqb}
use Rattle.std.proofs.lemmas.List.{take_at, drop_at, get_or_append_left, get_or-append_right, get_or-replicate, get_or-take, get_or-drop, length-take-le, length-drop}
use Rattle.std.proofs.lemmas.List.Sums.{position_or_len_is}
use Rattle.std.proofs.Math.Seq.{take-append_seam, drop-append_seam}
use Rattle.steps.specs.Steps.{Name}
use Rattle.steps.specs.Utf8.{no_zero}
use Rattle.redbin.specs.Bytes.{same, fill, zeros}
use Rattle.redbin.specs.Canonical.{stored, strings, index_of}
use Rattle.save.specs.Symbols.{Clean, TakesStored}

-- how long the strings are
pub length_stored : (n : Name) → length (stored n) ≡ length n + 1 + fill 8 (length n + 1)
length_stored n = length-append n (0 ∷ zeros (fill 8 (length n + 1))) ∙ omega (arith, length-replicate {A = ℕ} (fill 8 (length n + 1)) 0)

-- what a byte that was got says when it is compared with a zero
pub zero_at : (xs : List ℕ) (i : ℕ) (r : Option (Bor ℕ)) (z : Bor ℕ) → ((d : ℕ) → unwrap_or (option_copied r) d ≡ get_or xs i d) → z.now ≡ 0 → option_eq (λ x y. eqb x.now y.now) r (Some z) ≡ eqb (get_or xs i 1) 0
zero_at xs i None z h e = ap (λ b. eqb b 0) (h 1)
zero_at xs i (Some x) z h e = ap (eqb x.now) e ∙ ap (λ b. eqb b 0) (h 1)

-- ---- the first string, by eights

-- the last byte of a list is zero
abbrev pub closes : List ℕ → Bool
closes b = eqb (get_or b (length b - 1) 1) 0

pub closes_at : (xs : List ℕ) (r : Option (Bor ℕ)) (z : Bor ℕ) (b : Bool) → IsGetResult xs 0 (length xs - 1) r → z.now ≡ 0 → b ≡ option_eq (λ x y. eqb x.now y.now) r (Some z) → b ≡ closes xs
closes_at xs r z b h e d = d ∙ zero_at xs (length xs - 1) r z (h.4 (omega arith)) e

abbrev pub eights : List ℕ → List (List ℕ)
eights xs = first_chunks 8 (length xs / 8) xs

eights_given : (k : ℕ) (s : ChunksExact ℕ) → chunks_exact_size s ≡ 8 → k * 8 ≤ length (chunks_exact_rest s) → length (chunks_exact_rest s) < k * 8 + 8 → AlwaysYields chunks_exact_steps (λ x. x.now) s (first_chunks 8 k (chunks_exact_rest s))
eights_given zero s e low high = λ x t h. omega (arith, e, h.1.1, ap length h.1.0, length-append x.now (chunks_exact_rest t))
eights_given (suc k) s e low high = (
  (λ t h. omega (arith, e, h.1.0)),
  λ x t h.
      let cut = h.1.0 in
      let l : length x.now ≡ 8 = h.1.1 ∙ e in
      let front : x.now ≡ take 8 (chunks_exact_rest s) = rw (cut, ← l) (sym (take-append_seam x.now (chunks_exact_rest t))) in
      let back : chunks_exact_rest t ≡ drop 8 (chunks_exact_rest s) = rw (cut, ← l) (sym (drop-append_seam x.now (chunks_exact_rest t))) in
      let m : length (chunks_exact_rest s) ≡ 8 + length (chunks_exact_rest t) = omega (arith, ap length cut, length-append x.now (chunks_exact_rest t)) in
      (front, subst (λ (ys : List ℕ). AlwaysYields chunks_exact_steps (λ x. x.now) t (first_chunks 8 k ys)) back (eights_given k t (h.0 ∙ e) (omega arith) (omega arith))),
)

-- `chunks_exact` gives them
pub eights_yielded : (s : ChunksExact ℕ) (xs : List ℕ) → chunks_exact_size s ≡ 8 → chunks_exact_rest s ≡ xs → YieldsList chunks_exact_steps (λ x. x.now) s (eights xs)
eights_yielded s xs e f = record { runs = rw (← f) (eights_given (length (chunks_exact_rest s) / 8) s e (omega arith) (omega arith)) }

length-eights : (k : ℕ) (xs : List ℕ) → length (first_chunks 8 k xs) ≡ k
length-eights zero xs = refl
length-eights (suc k) xs = ap suc (length-eights k (drop 8 xs))

-- the last byte of each
closed_at : (k i : ℕ) (xs : List ℕ) → i < k → k * 8 ≤ length xs → closes (get_or (first_chunks 8 k xs) i []) ≡ eqb (get_or xs (i * 8 + 7) 1) 0
closed_at zero i xs lt le = absurd (omega arith)
closed_at (suc k) zero xs lt le =
    let l : length (take 8 xs) - 1 ≡ 7 = omega (arith, length-take-le 8 xs (omega arith)) in
    ap (λ j. eqb (get_or (take 8 xs) j 1) 0) l ∙ ap (λ b. eqb b 0) (get_or-take 8 xs 7 1 (omega arith))
closed_at (suc k) (suc i) xs lt le =
    let j : 8 + (i * 8 + 7) ≡ suc i * 8 + 7 = omega arith in
    closed_at k i (drop 8 xs) (omega arith) (omega (arith, length-drop 8 xs)) ∙ ap (λ b. eqb b 0) (get_or-drop 8 xs (i * 8 + 7) 1 ∙ ap (λ m. get_or xs m 1) j)

abbrev pub found_close : List ℕ → Option ℕ
found_close xs = cond (ltb (position_or_len closes (eights xs)) (length (eights xs))) (Some (position_or_len closes (eights xs))) None

-- a name has no zero, and behind it come zeros alone
nonzero_at : (m : Name) (k : ℕ) → k < length m → no_zero m ≡ true → 0 < get_or m k 1
nonzero_at [] k l z = absurd (omega arith)
nonzero_at (a ∷ m) zero l z = ltb-true 0 a (and_parts (ltb 0 a) (no_zero m) z).0
nonzero_at (a ∷ m) (suc k) l z = nonzero_at m k (omega arith) (and_parts (ltb 0 a) (no_zero m) z).1

zero_behind : (n : Name) (rest : List ℕ) (i : ℕ) → length n ≤ i → i < length (stored n) → get_or (stored n ++ rest) i 1 ≡ 0
zero_behind n rest i low high =
    let m = fill 8 (length n + 1) in
    get_or_append_left (stored n) rest 1 i high ∙ get_or-append_right n (zeros (suc m)) (length n) i 1 refl low ∙ get_or-replicate (suc m) (i - length n) 0 1 (omega (arith, length_stored n))

found_first : (xs : List ℕ) (n : Name) (rest : List ℕ) → xs ≡ stored n ++ rest → no_zero n ≡ true → found_close xs ≡ Some (length n / 8)
found_first xs n rest e z =
    let s = length_stored n in
    let t : length xs ≡ length (stored n) + length rest = ap length e ∙ length-append (stored n) rest in
    let l = length-eights (length xs / 8) xs in
    let before : (k : ℕ) → k < length n / 8 → closes (get_or (eights xs) k []) ≡ false =
    λ k lt.
    let b : get_or xs (k * 8 + 7) 1 ≡ get_or n (k * 8 + 7) 1 =
    ap (λ ys. get_or ys (k * 8 + 7) 1) (e ∙ append_assoc n (0 ∷ zeros (fill 8 (length n + 1))) rest) ∙ get_or_append_left n _ 1 (k * 8 + 7) (omega arith) in
    closed_at (length xs / 8) k xs (omega arith) (omega arith) ∙ ne_eqb _ 0 (λ h. omega (arith, b, nonzero_at n (k * 8 + 7) (omega arith) z)) in
    let here : closes (get_or (eights xs) (length n / 8) []) ≡ true =
    closed_at (length xs / 8) (length n / 8) xs (omega arith) (omega arith) ∙ eq-eqb _ 0 (ap (λ ys. get_or ys (length n / 8 * 8 + 7) 1) e ∙ zero_behind n rest _ (omega arith) (omega arith)) in
    let p : position_or_len closes (eights xs) ≡ length n / 8 = position_or_len_is closes (eights xs) (length n / 8) [] (omega arith) before (λ h. here) in
    let q : ltb (position_or_len closes (eights xs)) (length (eights xs)) ≡ true = lt-ltb _ _ (omega arith) in
    rw (q, p)

pub took_none : (xs left : List ℕ) (r : Option (Bor (List ℕ))) → None ≡ found_close xs → r ≡ None → TakesStored xs r left
took_none xs left r f h = record { none = λ _. h; some = λ n rest e z. absurd (let q : None ≡ Some (length n / 8) = f ∙ found_first xs n rest e z in cc) }

pub took_first : (xs left : List ℕ) (i : ℕ) (x : Bor (List ℕ)) → Some i ≡ found_close xs → x.now ≡ take (8 * i + 8) xs → left ≡ drop (8 * i + 8) xs → TakesStored xs (Some x) left
took_first xs left i x f t d = record { none = none; some = some } where
  none : xs ≡ [] → Some x ≡ None
  none e = absurd (let q : Some i ≡ None = f ∙ ap found_close e in cc)

  some : (n : Name) (rest : List ℕ) → xs ≡ stored n ++ rest → no_zero n ≡ true → (x.now ≡ stored n) × (left ≡ rest)
  some n rest e z =
      let q : Some i ≡ Some (length n / 8) = f ∙ found_first xs n rest e z in
      let l : i ≡ length n / 8 = cc in
      let size : length (stored n) ≡ 8 * i + 8 = omega (arith, length_stored n) in
      (t ∙ ap (take (8 * i + 8)) e ∙ take_at (stored n) rest (8 * i + 8) size, d ∙ ap (drop (8 * i + 8)) e ∙ drop_at (stored n) rest (8 * i + 8) size)

-- ---- a name and the zero behind it

-- the test of the zero and that of the bytes before it make one
and_swap : (a b c : Bool) → (a && (b && c)) ≡ (b && (a && c))
and_swap true b c = refl
and_swap false true c = refl
and_swap false false c = refl

begun_suc : (xs name : List ℕ) → same (take (suc (length name)) xs) (name ++ 0 ∷ []) ≡ (eqb (get_or xs (length name) 1) 0 && same (take (length name) xs) name)
begun_suc [] [] = refl
begun_suc (x ∷ xs) [] = refl
begun_suc [] (b ∷ name) = refl
begun_suc (x ∷ xs) (b ∷ name) = ap (λ t. eqb x b && t) (begun_suc xs name) ∙ and_swap (eqb x b) (eqb (get_or xs (length name) 1) 0) (same (take (length name) xs) name)

pub begun : (xs name : List ℕ) → same (take (length name + 1) xs) (name ++ 0 ∷ []) ≡ (eqb (get_or xs (length name) 1) 0 && same (take (length name) xs) name)
begun xs name = rw add-one (begun_suc xs name)

-- a string begins with the name that it is made of, and with no other
begins_suc : (n name zs : List ℕ) → no_zero n ≡ true → no_zero name ≡ true → same (take (suc (length name)) (n ++ 0 ∷ zs)) (name ++ 0 ∷ []) ≡ same n name
begins_suc [] [] zs p q = refl
begins_suc [] (b ∷ name) zs p q = rw (ne_eqb 0 b (λ h. omega (arith, ltb-true 0 b (and_parts (ltb 0 b) (no_zero name) q).0)))
begins_suc (a ∷ n) [] zs p q = rw (ne_eqb a 0 (λ h. omega (arith, ltb-true 0 a (and_parts (ltb 0 a) (no_zero n) p).0)))
begins_suc (a ∷ n) (b ∷ name) zs p q = ap (λ t. eqb a b && t) (begins_suc n name zs (and_parts (ltb 0 a) (no_zero n) p).1 (and_parts (ltb 0 b) (no_zero name) q).1)

abbrev pub begins : List ℕ → Name → Bool
begins xs name = same (take (length name + 1) xs) (name ++ 0 ∷ [])

stored_begins : (n name : Name) → no_zero n ≡ true → no_zero name ≡ true → begins (stored n) name ≡ same n name
stored_begins n name p q = rw add-one (begins_suc n name (zeros (fill 8 (length n + 1))) p q)

-- ---- the index of a name

module _ {T : Type 0} (shown : T → List ℕ) where
  abbrev pub steps : T → Option (Bor (List ℕ)) → T → Type 0
  steps s r t = TakesStored (shown s) r (shown t)

  yields_strings : (s : T) (names : List Name) → shown s ≡ strings names → Clean names → AlwaysYields steps (λ x. x.now) s (map stored names)
  unfolding strings
  yields_strings s [] e c = λ x t g. let q : Some x ≡ None = g.none e in cc
  yields_strings s (n ∷ ns) e c = (λ t g. g.some n (strings ns) e c.0, λ x t g. let h = g.some n (strings ns) e c.0 in (h.0, yields_strings t ns h.1 c.1))

  pub strings_yield : (s : T) (names : List Name) → shown s ≡ strings names → Clean names → YieldsList steps (λ x. x.now) s (map stored names)
  strings_yield s names e c = record { runs = yields_strings s names e c }

pub index_is : (names : List Name) (name : Name) → Clean names → no_zero name ≡ true → prefix_len (λ xs. not (begins xs name)) (map stored names) ≡ index_of names name
unfolding index_of
index_is [] name c z = refl
index_is (n ∷ ns) name c z = go (begins (stored n) name) (same n name) (stored_begins n name c.0 z) (index_is ns name c.1 z) where
  go : (a b : Bool) → a ≡ b → prefix_len (λ xs. not (begins xs name)) (map stored ns) ≡ index_of ns name → cond (not a) (1 + prefix_len (λ xs. not (begins xs name)) (map stored ns)) 0 ≡ cond b 0 (suc (index_of ns name))
  go a true e h = rw e
  go a false e h = rw (e, h) (omega arith)
