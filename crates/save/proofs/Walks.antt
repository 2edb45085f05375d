-- Along the names of a document.
use Rattle.std.proofs.Common.{◌≡◌, ℕ, zero, suc, ◌+◌, ◌-◌, ◌*◌, ◌<◌, ◌≤◌, true, false, Option, None, List, [], ◌∷◌, ◌++◌, length, take, Some, sym, refl, ap, ◌∙◌, suc-mul, mul-le-mul, add-one, arith, length-append}
use Rattle.std.specs.List.{range_with_len, flat_map}
use Rattle.std.specs.declared.ops.Range.{Range}
use Rattle.std.proofs.iter.Yields.{nat_range_steps}
use Rattle.std.proofs.lemmas.List.{append-nil, take_all, length-map}
use Rattle.std.proofs.lemmas.Grind.{flat_map-append}
use Rattle.steps.specs.declared.parts.Node.TheVariants.{At}
use Rattle.steps.specs.declared.parts.Holder.{Holder}
use Rattle.steps.specs.declared.parts.Holder.TheVariants.{List as OfList, Object as OfObject}
use Rattle.steps.specs.Steps.{Begun, put, open', share}
use Rattle.steps.specs.Outline.{Entry, entry_at, begun_at, inner_names}
use Rattle.steps.specs.Build.{begun_object, object_in}
use Rattle.steps.proofs.Entered.{begun_in, begun_entry}
use Rattle.redbin.specs.Canonical.{names_if_object, written_names}
use Rattle.redbin.proofs.Paths.{Sound}
use Rattle.redbin.proofs.Records.{inner_names_length}
use Rattle.save.specs.Values.{oldest, name_in, names_of, inner_of}
use Rattle.save.specs.Names.{names_if, names_at, in_order}
use Rattle.save.proofs.Oldest.{next, length_oldest, oldest_all, oldest_none}
use Rattle.save.proofs.Sane.{first_none}
use Rattle.save.proofs.Found.{numbers, range_some}
use Rattle.save.proofs.Numbered.{range_push, inner_until}

-- ---- the names that one value adds

-- as many as a document counts, where it is an object
pub object_count : (all : List Entry) (n k : ℕ) → true ≡ object_in (entry_at all n) → ((h : Holder) → begun_at all n ≡ Some (open' h) → k ≡ length (inner_names all (At n))) → k ≡ length (names_at all n)
object_count all n k t c = in_entry (entry_at all n) refl t where
  by : (b : Begun) → begun_at all n ≡ Some b → names_at all n ≡ names_if_object all n b → true ≡ begun_object b → k ≡ length (names_at all n)
  by (put v) d m t = absurd (let z : ◌≡◌ {A = ℕ} 0 1 = cc in omega arith)
  by (open' (OfList j h)) d m t = absurd (let z : ◌≡◌ {A = ℕ} 0 1 = cc in omega arith)
  by (open' (OfObject w s q a i)) d m t = c (OfObject w s q a i) d ∙ ap length (sym m)
  by (share s q) d m t = absurd (let z : ◌≡◌ {A = ℕ} 0 1 = cc in omega arith)

  in_entry : (o : Option Entry) → entry_at all n ≡ o → true ≡ object_in o → k ≡ length (names_at all n)
  in_entry None e t = absurd (let z : ◌≡◌ {A = ℕ} 0 1 = cc in omega arith)
  in_entry (Some x) e t = by x.begun (begun_entry all n ∙ ap begun_in e) (ap (names_if all n) e) t

-- none, where it is no object
pub no_object : (all : List Entry) (n : ℕ) (o : Option Entry) → false ≡ object_in o → 0 ≡ length (names_if all n o)
no_object all n None t = refl
no_object all n (Some x) t = by x.begun t where
  by : (b : Begun) → false ≡ begun_object b → 0 ≡ length (names_if_object all n b)
  by (put v) t = refl
  by (open' (OfList j h)) t = refl
  by (open' (OfObject w s q a i)) t = absurd (let z : ◌≡◌ {A = ℕ} 0 1 = cc in omega arith)
  by (share s q) t = refl

-- those of the first inner values, as many as there are
pub inner_first : (all : List Entry) → Sound all → (v k : ℕ) → v < length all → k ≡ length (inner_names all (At v)) → names_of all (take k (inner_of all (At v) (v + 1) (length all - (v + 1)))) ≡ inner_names all (At v)
inner_first all s v k l e =
    let found = inner_of all (At v) (v + 1) (length all - (v + 1)) in
    let f = first_none all (At v) s (omega arith) in
    let i : inner_names all (At v) ≡ names_of all found = ap (λ xs. inner_names xs (At v)) (sym (oldest_all all (length all) (omega arith))) ∙ inner_until all (At v) (v + 1) (length all) f (omega arith) (omega arith) in
    ap (names_of all) (take_all k found (omega (arith, e, ap length i, length-map found (λ n. name_in (entry_at all n))))) ∙ sym i

pub object_names : (all : List Entry) → Sound all → (v : ℕ) → v < length all → names_of all (take (length (names_at all v)) (inner_of all (At v) (v + 1) (length all - (v + 1)))) ≡ names_at all v
object_names all s v l = let n = next all v l in by n.value.begun (ap (names_if all v) n.found) where
  found : List ℕ
  found = inner_of all (At v) (v + 1) (length all - (v + 1))

  by : (b : Begun) → names_at all v ≡ names_if_object all v b → names_of all (take (length (names_at all v)) found) ≡ names_at all v
  by (put x) m = ap (λ ns. names_of all (take (length ns) found)) m ∙ sym m
  by (open' (OfList k h)) m = ap (λ ns. names_of all (take (length ns) found)) m ∙ sym m
  by (open' (OfObject w o c t a)) m = inner_first all s v (length (names_at all v)) l (ap length m) ∙ sym m
  by (share x t) m = ap (λ ns. names_of all (take (length ns) found)) m ∙ sym m

-- ---- the names of all values

written_more : (all : List Entry) (k : ℕ) → k < length all → written_names all (oldest (k + 1) all) ≡ written_names all (oldest k all) ++ names_at all k
unfolding written_names
written_more all k l = let n = next all k l in rw (n.stands, n.found, length_oldest all k (omega arith))

written_none : (all : List Entry) → written_names all (oldest 0 all) ≡ []
unfolding written_names
written_none all = ap (written_names all) (oldest_none all)

order_until : (all : List Entry) (k : ℕ) → k ≤ length all → flat_map (names_at all) (range_with_len 0 k) ≡ written_names all (oldest k all)
order_until all zero l = sym (written_none all)
order_until all (suc k) l =
    ap (λ j. flat_map (names_at all) (range_with_len 0 j)) (sym (add-one k)) ∙ ap (flat_map (names_at all)) (range_push 0 k) ∙ flat_map-append (names_at all) (range_with_len 0 k) ((0 + k) ∷ [])
    ∙ ap (λ ns. ns ++ flat_map (names_at all) ((0 + k) ∷ [])) (order_until all k (omega arith)) ∙ ap (λ ns. written_names all (oldest k all) ++ ns) (append-nil (names_at all (0 + k)) ∙ ap (names_at all) (omega arith)) ∙ sym (written_more all k (omega arith)) ∙ ap (λ j. written_names all (oldest j all)) (add-one k)

pub order_all : (all : List Entry) → flat_map (names_at all) (range_with_len 0 (length all)) ≡ in_order all
order_all all = order_until all (length all) (omega arith) ∙ ap (written_names all) (oldest_all all (length all) (omega arith))

-- ---- on to the next value

-- where no name of an object is left
pub value_next : (all : List Entry) → Sound all → (a b : List ℕ) (s t : Range ℕ) (v : ℕ) → a ≡ [] → nat_range_steps s (Some v) t → s.end ≤ length all
    → b ≡ take (length (names_at all v)) (inner_of all (At v) (v + 1) (length all - (v + 1))) → names_of all b ++ flat_map (names_at all) (numbers t) ≡ names_of all a ++ flat_map (names_at all) (numbers s)
value_next all sound a b s t v e h l d =
    let low : v < length all = omega (arith, h.1.0, h.1.1, l) in
    let n : names_of all b ≡ names_at all v = ap (names_of all) d ∙ object_names all sound v low in
    ap (λ ns. ns ++ flat_map (names_at all) (numbers t)) n ∙ sym (ap (λ vs. names_of all vs ++ flat_map (names_at all) (numbers s)) e ∙ ap (flat_map (names_at all)) (range_some s v t h))

-- ---- few

names_few : (all : List Entry) (n : ℕ) (b : Begun) → length (names_if_object all n b) ≤ length all
names_few all n (put v) = omega arith
names_few all n (open' (OfList k h)) = omega arith
names_few all n (open' (OfObject w s c t a)) = inner_names_length all (At n)
names_few all n (share s t) = omega arith

written_few : (all xs : List Entry) → length (written_names all xs) ≤ length xs * length all
unfolding written_names
written_few all [] = omega arith
written_few all (x ∷ xs) =
    omega (arith, length-append (written_names all xs) (names_if_object all (length xs) x.begun), written_few all xs, names_few all (length xs) x.begun, suc-mul (length xs) (length all))

pub order_few : (all : List Entry) → length all ≤ 16384 → length (in_order all) ≤ 268435456
order_few all l = let m : length all * length all ≤ 16384 * 16384 = mul-le-mul l l in omega (arith, written_few all all)
