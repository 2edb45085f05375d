-- The names of a document stand among its symbols, where their indexes say.
use Rattle.std.proofs.Common.{◌≡◌, suc, ◌<◌, Bool, true, false, cond, ◌⊎◌, List, [], ◌∷◌, map, length, get_or, refl, inl, inr, sym, arith}
use mathlib.Core.List.Memᴰ
use mathlib.Core.List.{Memᴰ}
use Rattle.steps.specs.Outline.{Entry}
use Rattle.steps.specs.Steps.{Name}
use Rattle.std.proofs.lemmas.Slice.Eq.{bytes_eq-Decides}
use Rattle.std.specs.List.{AllByRecursion as Each}
use Rattle.redbin.proofs.Fields.{Below}
use Rattle.redbin.proofs.Parts.{Within, all_of, later}
use Rattle.redbin.specs.Bytes.{same}
use Rattle.redbin.specs.Canonical.{index_of, without, once, names_if_object, written_names, symbols}
use Rattle.redbin.specs.Reading.{named_by}

index_found : (ms : List Name) (n : Name) → Memᴰ n ms → (index_of ms n < length ms) × (get_or ms (index_of ms n) [] ≡ n)
unfolding index_of
index_found [] n h = absurd (Memᴰ.not-nil h)
index_found (m ∷ ms) n h = go (index_found ms n) (same m n) refl (Memᴰ.cases_cons h)
  where
    go : (Memᴰ n ms → (index_of ms n < length ms) × (get_or ms (index_of ms n) [] ≡ n)) → (b : Bool) → same m n ≡ b → (n ≡ m) ⊎ Memᴰ n ms
        → (cond b 0 (suc (index_of ms n)) < suc (length ms)) × (get_or (m ∷ ms) (cond b 0 (suc (index_of ms n))) [] ≡ n)
    go ih true e c = (omega arith, (bytes_eq-Decides m n).0 e)
    go ih false e (inl p) =
        let q : same m n ≡ true = (bytes_eq-Decides m n).1 (sym p) in
        absurd cc
    go ih false e (inr p) = (omega (arith, (ih p).0), (ih p).1)

without_has : (m n : Name) (ms : List Name) → (same n m ≡ false) → Memᴰ n ms → Memᴰ n (without m ms)
unfolding without
without_has m n [] d h = absurd (Memᴰ.not-nil h)
without_has m n (x ∷ ms) d h = go (without_has m n ms d) (same x m) refl (Memᴰ.cases_cons h)
  where
    go : (Memᴰ n ms → Memᴰ n (without m ms)) → (b : Bool) → same x m ≡ b → (n ≡ x) ⊎ Memᴰ n ms → Memᴰ n (cond b (without m ms) (x ∷ without m ms))
    go ih true e (inl p) =
        let q : same n m ≡ true = rw p e in
        absurd cc
    go ih true e (inr p) = ih p
    go ih false e (inl p) = Memᴰ.head p
    go ih false e (inr p) = Memᴰ.tail (ih p)

once_has : (ns : List Name) (n : Name) → Memᴰ n ns → Memᴰ n (once ns)
unfolding once
once_has [] n h = h
once_has (m ∷ ns) n h = go (once_has ns n) (same n m) refl (Memᴰ.cases_cons h)
  where
    go : (Memᴰ n ns → Memᴰ n (once ns)) → (b : Bool) → same n m ≡ b → (n ≡ m) ⊎ Memᴰ n ns → Memᴰ n (m ∷ without m (once ns))
    go ih true e c = Memᴰ.head ((bytes_eq-Decides n m).0 e)
    go ih false e (inl p) = Memᴰ.head p
    go ih false e (inr p) = Memᴰ.tail (without_has m n (once ns) e (ih p))

written_has : (all : List Entry) (y : Entry) (ys xs : List Entry) (n : Name) → Within (y ∷ ys) xs → Memᴰ n (names_if_object all (length ys) y.begun)
    → Memᴰ n (written_names all xs)
unfolding written_names
written_has all y ys xs n all_of h = Memᴰ.append_right (written_names all ys) h
written_has all y ys xs n (later {x = x} {xs = zs} w) h = Memᴰ.append_left (names_if_object all (length zs) x.begun) (written_has all y ys zs n w h)

abbrev pub Among : List Name → List Name → Type 0
Among ns table = Each (λ n. Memᴰ n table) ns

among : (ns table : List Name) → ((n : Name) → Memᴰ n ns → Memᴰ n table) → Among ns table
among [] table f = tt
among (n ∷ ns) table f = (f n (Memᴰ.head refl), among ns table (λ m h. f m (Memᴰ.tail h)))

-- the names in an OfObject stand among the symbols
pub object_among : (all : List Entry) (y : Entry) (ys : List Entry) → Within (y ∷ ys) all → Among (names_if_object all (length ys) y.begun) (symbols all)
unfolding symbols
object_among all y ys w = among _ _ (λ n h. once_has (written_names all all) n (written_has all y ys all n w h))

pub named_by_indexes : (table ns : List Name) → Among ns table → named_by table (map (index_of table) ns) ≡ ns
unfolding named_by
named_by_indexes table [] h = refl
named_by_indexes table (n ∷ ns) h =
    let p = (index_found table n h.0).1 in
    let q = named_by_indexes table ns h.1 in
    cc

pub indexes_below : (table ns : List Name) → Among ns table → Below (length table) (map (index_of table) ns)
indexes_below table [] h = tt
indexes_below table (n ∷ ns) h = ((index_found table n h.0).0, indexes_below table ns h.1)
