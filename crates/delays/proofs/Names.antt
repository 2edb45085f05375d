-- Names that are the same, and names among pairs.
use Rattle.std.proofs.Common.{◌≡◌, ℕ, zero, suc, ◌+◌, Bool, true, false, ◌||◌, List, [], ◌∷◌, ◌++◌, length, Some, None, Option, sym, refl, ap, ◌∙◌, ⊎_elim, arith}
use Rattle.std.specs.List.{list_any, range_with_len}
use Rattle.std.proofs.lemmas.Bool.{cases_lt}
use Rattle.steps.proofs.Entered.{entry_none}
use Rattle.steps.specs.Steps.{Name}
use Rattle.steps.specs.Outline.{Entry}
use Rattle.listing.specs.Pairs.{Pair}
use Rattle.listing.specs.Forms.{same}
use Rattle.delays.specs.Delays.{listed, one_or_none, delays, oldest, delay_at}
use Rattle.delays.proofs.Oldest.{oldest_none, oldest_all, delays_more}

or_assoc : (a b c : Bool) → ((a || b) || c) ≡ (a || (b || c))
or_assoc true b c = refl
or_assoc false b c = refl

or_none : (b : Bool) → b ≡ (b || false)
or_none true = refl
or_none false = refl

pub listed_append : (n : Name) (ps qs : List Pair) → listed n (ps ++ qs) ≡ (listed n ps || listed n qs)
unfolding listed
listed_append n [] qs = refl
listed_append n (p ∷ ps) qs = ap (λ b. same p.name n || b) (listed_append n ps qs) ∙ sym (or_assoc (same p.name n) (listed n ps) (listed n qs))

-- ---- a name among the delays of the values of some numbers

-- whether the value of a number is a delay with this name
abbrev pub named_at : Name → List Entry → ℕ → Bool
named_at n xs k = listed n (one_or_none (delay_at xs k))

listed_next : (n : Name) (xs : List Entry) (k : ℕ) → listed n (delays (oldest (k + 1) xs)) ≡ (listed n (delays (oldest k xs)) || named_at n xs k)
unfolding listed
listed_next n xs k =
    ⊎_elim (λ h. ap (listed n) (delays_more xs k h) ∙ listed_append n (delays (oldest k xs)) (one_or_none (delay_at xs k)))
    (λ h. rw (oldest_all xs k h, oldest_all xs (k + 1) (omega (arith, h)), entry_none xs k h) (or_none (listed n (delays xs))))
    (cases_lt k (length xs))

-- among so many numbers from one on, behind the values before that
listed_from : (n : Name) (xs : List Entry) (k m j : ℕ) → j ≡ k + m → (listed n (delays (oldest k xs)) || list_any (named_at n xs) (range_with_len k m)) ≡ listed n (delays (oldest j xs))
listed_from n xs k zero j e = sym (or_none (listed n (delays (oldest k xs)))) ∙ ap (λ i. listed n (delays (oldest i xs))) (omega arith)
listed_from n xs k (suc m) j e =
    sym (or_assoc (listed n (delays (oldest k xs))) (named_at n xs k) (list_any (named_at n xs) (range_with_len (k + 1) m)))
    ∙ ap (λ b. b || list_any (named_at n xs) (range_with_len (k + 1) m)) (sym (listed_next n xs k))
    ∙ listed_from n xs (k + 1) m j (omega arith)

pub listed_range : (n : Name) (xs : List Entry) (m : ℕ) → list_any (named_at n xs) (range_with_len 0 m) ≡ listed n (delays (oldest m xs))
unfolding listed delays
listed_range n xs m = ap (λ ys. listed n (delays ys) || list_any (named_at n xs) (range_with_len 0 m)) (sym (oldest_none xs)) ∙ listed_from n xs 0 m m (omega arith)

-- ---- one value

pub named_some : (n : Name) (o : Option Pair) (p : Pair) (r : Bool) → Some p ≡ o → r ≡ same p.name n → r ≡ listed n (one_or_none o)
unfolding listed
named_some n o p r e h = h ∙ or_none (same p.name n) ∙ ap (λ q. listed n (one_or_none q)) e

pub named_none : (n : Name) (o : Option Pair) → None ≡ o → false ≡ listed n (one_or_none o)
unfolding listed
named_none n o e = ap (λ q. listed n (one_or_none q)) e
