-- What listings mean after pairs were added.
use Rattle.std.proofs.Common.{◌≡◌, ℕ, ◌+◌, ◌<◌, ◌≤◌, Bool, List, [], ◌∷◌, ◌++◌, map, length, get_or, take, pos, Some, Err, sym, refl, ap, ◌∙◌, append_assoc}
use Rattle.std.proofs.lemmas.List.{append-nil, take_more, take_all, get_or-map, length-map}
use Rattle.refusal.specs.declared.Reason.{Reason}
use Rattle.refusal.specs.Numbers.{number}
use Rattle.listing.specs.Pairs.{Pair, pair, good}
use Rattle.listing.specs.Listings.{refusal, Added, AddedAll, Gave, Agree}

module _ {S : Type 0} (m : S → List Pair) (h : S → Pair → Bool) (l : S → Pair → S → Type 0) where
  all_more : (ps : List Pair) (s t u : S) (p : Pair) → AddedAll m h l s ps t → Added m h l t p u → AddedAll m h l s (ps ++ p ∷ []) u
  all_more [] s t u p g a = (u, rw (← g) a, refl)
  all_more (q ∷ ps) s t u p g a = (g.0, g.1, all_more ps g.0 t u p g.2 a)

  all_mean : (ps : List Pair) (s t : S) → AddedAll m h l s ps t → m t ≡ m s ++ ps
  all_mean [] s t g = ap m g ∙ sym (append-nil (m s))
  all_mean (p ∷ ps) s t g = all_mean ps g.0 t g.2 ∙ ap (λ x. x ++ ps) g.1.means ∙ append_assoc (m s) (p ∷ []) ps

-- a loop that gives P of each of xs
module _ {S E : Type 0} (m : S → List Pair) (h : S → Pair → Bool) (l : S → Pair → S → Type 0) (P : E → Pair) (xs : List E) where
  at_place : (i : ℕ) (d : E) (p : Pair) → i < length xs → p ≡ P (get_or xs i d) → get_or (map P xs) i (pair [] (pos 0)) ≡ p
  at_place i d p k e = get_or-map P xs i d _ k ∙ sym e

  pub given_next : (i : ℕ) (d : E) (p : Pair) (s t u : S) → i < length xs → p ≡ P (get_or xs i d) → AddedAll m h l s (take i (map P xs)) t → Added m h l t p u → AddedAll m h l s (take (i + 1) (map P xs)) u
  given_next i d p s t u k e g a =
      let n : i < length (map P xs) = rw length-map k in
      rw (take_more (map P xs) i (pair [] (pos 0)) n, at_place i d p k e) (all_more m h l (take i (map P xs)) s t u p g a)

  pub given_all : (i : ℕ) (s t : S) → length xs ≤ i → AddedAll m h l s (take i (map P xs)) t → AddedAll m h l s (map P xs) t
  given_all i s t k g = let n : length (map P xs) ≤ i = rw length-map k in rw take_all at g

  pub given_err : (X : Type 0) (i : ℕ) (d : E) (p : Pair) (s t u : S) (e : Reason) → i < length xs → p ≡ P (get_or xs i d) → AddedAll m h l s (take i (map P xs)) t → u ≡ t → Some (number e) ≡ refusal (good p) (h t p) → Gave {X = X} m h l s (map P xs) u (Err e)
  given_err X i d p s t u e k q g w a = rw w (i, rw length-map k, g, rw (at_place i d p k q) a)

pub agree : {S T : Type 0} (m : S → List Pair) (h : S → Pair → Bool) (l : S → Pair → S → Type 0) (m' : T → List Pair) (h' : T → Pair → Bool) (l' : T → Pair → T → Type 0) → Agree m h l m' h' l'
agree m h l m' h' l' a b a' b' ps fa fa' g g' =
    let e = all_mean m h l ps a b g ∙ ap (λ x. x ++ ps) fa in
    (e ∙ sym (all_mean m' h' l' ps a' b' g' ∙ ap (λ x. x ++ ps) fa'), e)
