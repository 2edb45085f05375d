-- Names once each, as a chain over the names gives them.
use Rattle.std.proofs.Common.{◌≡◌, ℕ, ◌+◌, Bool, true, false, cond, ◌||◌, List, [], ◌∷◌, ◌++◌, length, take, Decides, sym, refl, ap, ◌∙◌, append_assoc, arith}
use Rattle.std.specs.List.{enumerate_from}
use Rattle.std.proofs.lemmas.List.{append-nil, take_at, length_push}
use Rattle.std.proofs.lemmas.Bool.Decides.{same_from_decides, Decides-eqb}
use Rattle.std.proofs.lemmas.Slice.Eq.{slice_eq-Decides}
use Rattle.steps.specs.Steps.{Name}
use Rattle.steps.specs.Outline.{Entry}
use Rattle.redbin.specs.Bytes.{same}
use Rattle.redbin.specs.Canonical.{without, once, symbols}
use Rattle.save.specs.Names.{listed, in_order, fresh}

same_sym : (m n : Name) → same m n ≡ same n m
same_sym m n =
    let d : Decides (same m n) (m ≡ n) = slice_eq-Decides Decides-eqb m n _ refl in
    let e : Decides (same n m) (n ≡ m) = slice_eq-Decides Decides-eqb n m _ refl in
    same_from_decides (same m n) (same n m) d (λ h. sym (e.0 h), λ p. e.1 (sym p))

without_append : (n : Name) (ps qs : List Name) → without n (ps ++ qs) ≡ without n ps ++ without n qs
unfolding without
without_append n [] qs = refl
without_append n (p ∷ ps) qs = go (without_append n ps qs) (same p n) where
  go : without n (ps ++ qs) ≡ without n ps ++ without n qs → (b : Bool) → cond b (without n (ps ++ qs)) (p ∷ without n (ps ++ qs)) ≡ cond b (without n ps) (p ∷ without n ps) ++ without n qs
  go ih true = ih
  go ih false = ap (λ xs. p ∷ xs) ih

-- a name once more changes nothing, a new one comes last
once_push : (ns : List Name) (n : Name) → once (ns ++ n ∷ []) ≡ once ns ++ cond (listed n ns) [] (n ∷ [])
unfolding once without
once_push [] n = refl
once_push (m ∷ ns) n =
    ap (λ xs. m ∷ without m xs) (once_push ns n) ∙ ap (λ xs. m ∷ xs) (without_append m (once ns) (cond (listed n ns) [] (n ∷ []))) ∙ ap (λ xs. m ∷ (without m (once ns) ++ xs)) (last (listed n ns) (same m n) (same_sym n m))
  where
    last : (b c : Bool) → same n m ≡ c → without m (cond b [] (n ∷ [])) ≡ cond (c || b) [] (n ∷ [])
    last true true e = refl
    last true false e = refl
    last false true e = rw e
    last false false e = rw e

-- the names that stand nowhere before come behind those before, each once
once_fresh : (before ns all : List Name) (k : ℕ) → all ≡ before ++ ns → k ≡ length before → once (before ++ ns) ≡ once before ++ fresh all (enumerate_from k ns)
once_fresh before [] all k e d = ap once (append-nil before) ∙ sym (append-nil (once before))
once_fresh before (n ∷ ns) all k e d =
    let a : (before ++ n ∷ []) ++ ns ≡ before ++ n ∷ ns = append_assoc before (n ∷ []) ns in
    let h = once_fresh (before ++ n ∷ []) ns all (k + 1) (e ∙ sym a) (omega (arith, d, length_push before n)) in
    let t : take k all ≡ before = ap (take k) e ∙ take_at before (n ∷ ns) k (sym d) in
    sym (ap once a) ∙ h ∙ ap (λ xs. xs ++ fresh all (enumerate_from (k + 1) ns)) (once_push before n) ∙ append_assoc (once before) _ _ ∙ ap (λ xs. once before ++ xs) (one (listed n before) (ap (listed n) t))
  where
    one : (b : Bool) → listed n (take k all) ≡ b → cond b [] (n ∷ []) ++ fresh all (enumerate_from (k + 1) ns) ≡ fresh all (enumerate_from k (n ∷ ns))
    one true t = rw t
    one false t = rw t

once_none : once [] ≡ []
unfolding once
once_none = refl

symbols_once : (all : List Entry) → symbols all ≡ once (in_order all)
unfolding symbols
symbols_once all = refl

pub fresh_symbols : (all : List Entry) → fresh (in_order all) (enumerate_from 0 (in_order all)) ≡ symbols all
fresh_symbols all = sym (symbols_once all ∙ once_fresh [] (in_order all) (in_order all) 0 refl refl ∙ ap (λ ns. ns ++ fresh (in_order all) (enumerate_from 0 (in_order all))) once_none)
