-- The records of a document, value after value.
use Rattle.std.proofs.Common.{◌≡◌, ℕ, suc, ◌+◌, ◌-◌, ◌<◌, ◌≤◌, min, List, [], ◌∷◌, ◌++◌, length, Some, None, Option, sym, refl, ap, ◌∙◌, subst, ⊎_elim, arith}
use Rattle.steps.specs.declared.parts.Node.{Node}
use Rattle.steps.specs.declared.parts.Share.{Share}
use Rattle.steps.specs.Steps.{Begun, share, begin, close, Steps}
use Rattle.steps.specs.Outline.{Entry, values, entry_at, begun_at}
use Rattle.steps.proofs.Entered.{begun_in, begun_entry, entry_first, entry_later}
use Rattle.redbin.specs.Canonical.{record_of, payload}
use Rattle.save.specs.Sinks.{Output, full, Gained}
use Rattle.save.specs.Values.{oldest, There}
use Rattle.save.specs.Records.{Placed, recorded, records}
use Rattle.save.proofs.Outputs.{gained_none, gained_then, size_extend}
use Rattle.save.proofs.Oldest.{either, next, oldest_all, oldest_none, drop_one}
use Rattle.save.proofs.Sane.{Fine, Target, oldest_later}

-- ---- one value

module _ {S : Type 0} (f : S → Output) (all : List Entry) (n : ℕ) (place : ℕ) (s : S) where
  pub none_recorded : None ≡ entry_at all n → Gained f s (recorded all n place (entry_at all n)) s
  none_recorded e = subst (λ o. Gained f s (recorded all n place o) s) e (gained_none f s)

pub some_begun : (all : List Entry) (n : ℕ) (x : Entry) → Some x ≡ entry_at all n → begun_at all n ≡ Some x.begun
some_begun all n x e = begun_entry all n ∙ ap begun_in (sym e)

target_here : (xs : List Entry) (o : Option Begun) (x : Entry) (s : Share) (t : Node) → Target xs x.begun → o ≡ Some (share s t) → o ≡ Some x.begun → There xs t
target_here xs o x s t h e d =
    let q : x.begun ≡ share s t = cc in
    subst (Target xs) q h

-- the target of a share comes before it
pub fine_target : (xs : List Entry) → Fine xs → (n : ℕ) (s : Share) (t : Node) → n < length xs → begun_at xs n ≡ Some (share s t) → There (oldest n xs) t
fine_target [] f n s t l e = absurd (omega arith)
fine_target (x ∷ xs) f n s t l e =
    ⊎_elim
    (λ q.
    let d : begun_at (x ∷ xs) n ≡ Some x.begun = begun_entry (x ∷ xs) n ∙ ap begun_in (ap (entry_at (x ∷ xs)) q ∙ entry_first xs x) in
    let o : oldest n (x ∷ xs) ≡ xs = drop_one (suc (length xs) - n) 0 x xs (omega arith) in
    subst (λ ys. There ys t) (sym o) (target_here xs (begun_at (x ∷ xs) n) x s t f.1 e d))
    (λ m.
    let d : begun_at (x ∷ xs) n ≡ begun_at xs n = begun_entry (x ∷ xs) n ∙ ap begun_in (entry_later xs x n m) ∙ sym (begun_entry xs n) in
    subst (λ ys. There ys t) (sym (oldest_later x xs n (omega arith))) (fine_target xs f.0 n s t m (sym d ∙ e)))
    (either n (length xs) (omega arith))

-- ---- all values

pub payload_records : (all : List Entry) (e : Steps) → payload all e ≡ records all (values e)
unfolding records
payload_records all [] = refl
payload_records all (begin l b ∷ e) = ap (λ p. p ++ record_of all (values e) (length p) l b) (payload_records all e)
payload_records all (close ∷ e) = payload_records all e

records_more : (all : List Entry) (k : ℕ) → k < length all → records all (oldest (k + 1) all) ≡ records all (oldest k all) ++ recorded all k (length (records all (oldest k all))) (entry_at all k)
unfolding records
records_more all k l = let n = next all k l in rw (n.stands, n.found)

-- what the payload has so far was written
module _ {S : Type 0} (f : S → Output) (all : List Entry) (s : S) where
  pub records_none : Gained f s (records all (oldest 0 all)) s
  unfolding records
  records_none = subst (λ ys. Gained f s (records all ys) s) (sym (oldest_none all)) (gained_none f s)

  pub placed : (t : S) (k start : ℕ) → start ≡ (f s).size → (f s).size ≤ full → Gained f s (records all (oldest k all)) t → Placed (f t) start (length (records all (oldest k all)))
  placed t k start e l g = ap (λ o. o.size) g ∙ size_extend (f s) (records all (oldest k all)) l ∙ ap (λ n. min (n + length (records all (oldest k all))) full) (sym e)

  pub records_next : (t u : S) (k : ℕ) → k < length all → Gained f s (records all (oldest k all)) t → Gained f t (recorded all k (length (records all (oldest k all))) (entry_at all k)) u → Gained f s (records all (oldest (k + 1) all)) u
  records_next t u k l g h = subst (λ bs. Gained f s bs u) (sym (records_more all k l)) (gained_then f s t u _ _ g h)

  pub records_all : (t : S) (k : ℕ) (e : Steps) → length all ≤ k → all ≡ values e → Gained f s (records all (oldest k all)) t → Gained f s (payload all e) t
  records_all t k e l d g = subst (λ bs. Gained f s bs t) (ap (records all) (oldest_all all k l ∙ d) ∙ sym (payload_records all e)) g
