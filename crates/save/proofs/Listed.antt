-- Whether a name stands among the first names of a document, object by object.
use Rattle.std.proofs.Common.{◌≡◌, ℕ, zero, suc, ◌+◌, ◌-◌, ◌<◌, ◌≤◌, min, leb, Bool, true, false, ◌||◌, List, [], ◌∷◌, ◌++◌, length, take, sym, refl, ap, ◌∙◌, arith}
use Rattle.std.specs.List.{list_any, range_with_len, flat_map}
use Rattle.std.proofs.lemmas.Bool.{leb-true, leb-false}
use Rattle.std.proofs.lemmas.List.{append-nil, take_all, take-take, take-append-le}
use Rattle.std.proofs.lemmas.List.Folds.{list_any-append}
use Rattle.std.proofs.Math.Seq.{take-append-add}
use Rattle.steps.specs.declared.parts.Node.TheVariants.{At}
use Rattle.steps.specs.Steps.{Name}
use Rattle.steps.specs.Outline.{Entry, entry_at}
use Rattle.redbin.specs.Bytes.{same}
use Rattle.redbin.proofs.Paths.{Sound}
use Rattle.save.specs.Values.{name_in, names_of, inner_of}
use Rattle.save.specs.Names.{names_at, in_order, listed}
use Rattle.save.proofs.Walks.{object_names, order_all}

-- ---- the names of one object

any_names : (all : List Entry) (n : Name) (vs : List ℕ) → list_any (λ v. same (name_in (entry_at all v)) n) vs ≡ listed n (names_of all vs)
any_names all n [] = refl
any_names all n (v ∷ vs) = ap (λ b. same (name_in (entry_at all v)) n || b) (any_names all n vs)

names_take : (all : List Entry) (k : ℕ) (vs : List ℕ) → names_of all (take k vs) ≡ take k (names_of all vs)
names_take all zero vs = refl
names_take all (suc k) [] = refl
names_take all (suc k) (v ∷ vs) = ap (λ ns. name_in (entry_at all v) ∷ ns) (names_take all k vs)

-- the first are those of the first inner values
pub among : (all : List Entry) → Sound all → (o k : ℕ) (n : Name) → o < length all → k ≤ length (names_at all o) → list_any (λ v. same (name_in (entry_at all v)) n) (take k (inner_of all (At o) (o + 1) (length all - (o + 1)))) ≡ listed n (take k (names_at all o))
among all s o k n l m =
    let found = inner_of all (At o) (o + 1) (length all - (o + 1)) in
    any_names all n (take k found)
    ∙ ap (λ vs. listed n (names_of all vs)) (sym (take-take k (length (names_at all o)) found m))
    ∙ ap (listed n) (names_take all k (take (length (names_at all o)) found) ∙ ap (take k) (object_names all s o l))

-- ---- object after object

-- the names of the values from this number on
abbrev pub names_from : List Entry → ℕ → List Name
names_from all i = flat_map (names_at all) (range_with_len i (length all - i))

pub listed_start : (all : List Entry) (end : ℕ) (n : Name) → listed n (take end (in_order all)) ≡ listed n (take end (names_from all 0))
listed_start all end n =
    let e : length all ≡ length all - 0 = omega arith in
    ap (λ ns. listed n (take end ns)) (sym (order_all all)) ∙ ap (λ k. listed n (take end (flat_map (names_at all) (range_with_len 0 k)))) e

names_next : (all : List Entry) (i : ℕ) → i < length all → names_from all i ≡ names_at all i ++ names_from all (i + 1)
names_next all i l =
    let e : length all - i ≡ suc (length all - (i + 1)) = omega arith in
    ap (λ k. flat_map (names_at all) (range_with_len i k)) e

-- the first of two lists, one behind the other
parted : (left k : ℕ) (a b : List Name) → k ≡ min left (length a) → take left (a ++ b) ≡ take k a ++ take (left - k) b
parted left k a b e = by (leb left (length a)) refl where
  by : (t : Bool) → leb left (length a) ≡ t → take left (a ++ b) ≡ take k a ++ take (left - k) b
  by true t =
      let l = leb-true left (length a) t in
      let q : left ≡ k = omega (arith, e) in
      let z : left - k ≡ 0 = omega (arith, q) in
      take-append-le left a b l ∙ ap (λ j. take j a) q ∙ sym (append-nil (take k a)) ∙ ap (λ j. take k a ++ take j b) (sym z)
  by false t =
      let l = leb-false left (length a) t in
      let q : left ≡ length a + (left - k) = omega (arith, e) in
      ap (λ j. take j (a ++ b)) q ∙ take-append-add a b (left - k) ∙ ap (λ xs. xs ++ take (left - k) b) (sym (take_all k a (omega (arith, e))))

module _ (all : List Entry) (i left k : ℕ) (n : Name) (there : i < length all) (first : k ≡ min left (length (names_at all i))) where
  listed_parted : listed n (take left (names_from all i)) ≡ (listed n (take k (names_at all i)) || listed n (take (left - k) (names_from all (i + 1))))
  listed_parted =
      ap (λ ns. listed n (take left ns)) (names_next all i there) ∙ ap (listed n) (parted left k (names_at all i) (names_from all (i + 1)) first)
      ∙ list_any-append (λ m. same m n) (take k (names_at all i)) (take (left - k) (names_from all (i + 1)))

  pub listed_here : true ≡ listed n (take k (names_at all i)) → listed n (take left (names_from all i)) ≡ true
  listed_here h = listed_parted ∙ ap (λ b. b || listed n (take (left - k) (names_from all (i + 1)))) (sym h)

  pub listed_later : false ≡ listed n (take k (names_at all i)) → listed n (take left (names_from all i)) ≡ listed n (take (left - k) (names_from all (i + 1)))
  listed_later h = listed_parted ∙ ap (λ b. b || listed n (take (left - k) (names_from all (i + 1)))) (sym h)

take_none : (left : ℕ) (n : Name) → listed n (take left []) ≡ false
take_none zero n = refl
take_none (suc left) n = refl

-- behind the last value there is none
pub listed_end : (all : List Entry) (i left : ℕ) (n : Name) → length all ≤ i → listed n (take left (names_from all i)) ≡ false
listed_end all i left n l =
    let e : length all - i ≡ 0 = omega arith in
    ap (λ k. listed n (take left (flat_map (names_at all) (range_with_len i k)))) e ∙ take_none left n
