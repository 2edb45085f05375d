-- Delays that are given to a listing, value by value.
use Rattle.std.proofs.Common.{◌≡◌, ℕ, zero, suc, ◌+◌, ◌-◌, ◌<◌, ◌≤◌, Bool, List, [], ◌∷◌, ◌++◌, length, get_or, take, pos, IfOk, IfErr, Some, None, Ok, Err, Option, Result, sym, refl, ap, ◌∙◌, subst, append_assoc, arith, length-append}
use lib.Seq.{take-append-add}
use Rattle.std.proofs.lemmas.List.{append-nil, take-append-le, get_or-append-add, get_or_append_left}
use Rattle.refusal.specs.declared.Reason.{Reason}
use Rattle.refusal.specs.Numbers.{number, refused_with}
use Rattle.steps.specs.Outline.{Entry}
use Rattle.listing.specs.Pairs.{Pair, pair, good}
use Rattle.listing.specs.Listings.{refusal, Added, AddedAll, Gave}
use Rattle.delays.specs.Delays.{one_or_none, delays, oldest, delay_at}
use Rattle.delays.proofs.Oldest.{oldest_none, oldest_all, delays_more}

module _ {S : Type 0} (m : S → List Pair) (h : S → Pair → Bool) (l : S → Pair → S → Type 0) where
  all_append : (ps qs : List Pair) (s t u : S) → AddedAll m h l s ps t → AddedAll m h l t qs u → AddedAll m h l s (ps ++ qs) u
  all_append [] qs s t u g k = rw (← g) k
  all_append (p ∷ ps) qs s t u g k = (g.0, g.1, all_append ps qs g.0 t u g.2 k)

  -- one `add`
  pub gave_one : {X : Type 0} (o : Option Pair) (p : Pair) (s t : S) (r : Result X Reason) → Some p ≡ o → refused_with r ≡ refusal (good p) (h s p) → IfOk r (λ _. Added m h l s p t) → IfErr r (λ _. t ≡ s) → Gave m h l s (one_or_none o) t r
  gave_one {X = X} o p s t r e a b c = subst (λ w. Gave m h l s (one_or_none w) t r) e (by r a b c) where
    by : (r : Result X Reason) → refused_with r ≡ refusal (good p) (h s p) → IfOk r (λ _. Added m h l s p t) → IfErr r (λ _. t ≡ s) → Gave m h l s (p ∷ []) t r
    by (Ok x) a b c = (t, b, refl)
    by (Err y) a b c = (0, omega arith, c, subst (λ v. Some (number y) ≡ refusal (good p) (h v p)) (sym c) a)

  pub gave_none : (o : Option Pair) (s : S) → None ≡ o → AddedAll m h l s (one_or_none o) s
  gave_none o s e = subst (λ w. AddedAll m h l s (one_or_none w) s) e refl

  -- a refusal behind pairs that were added, whatever pairs would follow
  later : (X : Type 0) (ps qs rest : List Pair) (s t u : S) (e : Reason) → AddedAll m h l s ps t → Gave {X = X} m h l t qs u (Err e) → Gave {X = X} m h l s ((ps ++ qs) ++ rest) u (Err e)
  later X ps qs rest s t u e g w =
      let k = w.0 in
      let a : (ps ++ qs) ++ rest ≡ ps ++ (qs ++ rest) = append_assoc ps qs rest in
      let b : take (length ps + k) ((ps ++ qs) ++ rest) ≡ ps ++ take k qs =
      ap (take (length ps + k)) a ∙ take-append-add ps (qs ++ rest) k ∙ ap (λ x. ps ++ x) (take-append-le k qs rest (omega (arith, w.1))) in
      let c : get_or ((ps ++ qs) ++ rest) (length ps + k) (pair [] (pos 0)) ≡ get_or qs k (pair [] (pos 0)) =
      ap (λ x. get_or x (length ps + k) (pair [] (pos 0))) a ∙ get_or-append-add ps (qs ++ rest) k _ ∙ get_or_append_left qs rest _ k w.1 in
      (length ps + k, omega (arith, w.1, length-append (ps ++ qs) rest, length-append ps qs), rw b (all_append ps (take k qs) s t u g w.2), rw c w.3)

  module _ (xs : List Entry) where
    pub given_none : (s : S) → AddedAll m h l s (delays (oldest 0 xs)) s
    unfolding delays
    given_none s = rw oldest_none refl

    pub given_more : (k : ℕ) (s t u : S) → k < length xs → AddedAll m h l s (delays (oldest k xs)) t → AddedAll m h l t (one_or_none (delay_at xs k)) u → AddedAll m h l s (delays (oldest (k + 1) xs)) u
    given_more k s t u b g w = rw (delays_more xs k b) (all_append (delays (oldest k xs)) (one_or_none (delay_at xs k)) s t u g w)

    pub given_all : (k : ℕ) (s t : S) → length xs ≤ k → AddedAll m h l s (delays (oldest k xs)) t → AddedAll m h l s (delays xs) t
    given_all k s t b g = rw oldest_all at g

    -- what follows the first delays
    rest_of : (k d n : ℕ) → n ≡ k + d → n ≤ length xs → (rest : List Pair) × (delays (oldest n xs) ≡ delays (oldest k xs) ++ rest)
    rest_of k zero n p b = let q : n ≡ k = omega arith in ([], ap (λ j. delays (oldest j xs)) q ∙ sym (append-nil (delays (oldest k xs))))
    rest_of k (suc d) n p b =
        let q : n ≡ (k + d) + 1 = omega arith in
        let r = rest_of k d (k + d) refl (omega arith) in
        (r.0 ++ one_or_none (delay_at xs (k + d)), ap (λ j. delays (oldest j xs)) q ∙ delays_more xs (k + d) (omega arith) ∙ ap (λ x. x ++ one_or_none (delay_at xs (k + d))) r.1 ∙ append_assoc (delays (oldest k xs)) r.0 (one_or_none (delay_at xs (k + d))))

    pub given_err : (X : Type 0) (k : ℕ) (s t u : S) (e : Reason) → k < length xs → AddedAll m h l s (delays (oldest k xs)) t → Gave {X = X} m h l t (one_or_none (delay_at xs k)) u (Err e) → Gave {X = X} m h l s (delays xs) u (Err e)
    given_err X k s t u e b g w =
        let r = rest_of (k + 1) (length xs - (k + 1)) (length xs) (omega arith) (omega arith) in
        let a : (delays (oldest k xs) ++ one_or_none (delay_at xs k)) ++ r.0 ≡ delays xs =
        ap (λ x. x ++ r.0) (sym (delays_more xs k b)) ∙ sym r.1 ∙ ap delays (oldest_all xs (length xs) (omega arith)) in
        subst (λ ps. Gave {X = X} m h l s ps u (Err e)) a (later X (delays (oldest k xs)) (one_or_none (delay_at xs k)) r.0 s t u e g w)
