-- A fact of each item of a list.
use Rattle.std.proofs.Common.{ℕ, ◌<◌, List, ◌++◌, length, get_or, replicate, ◌≡◌, Bool, true}
use Rattle.std.specs.List.{AllByRecursion as Each, list_all}
use Rattle.std.proofs.lemmas.List.Elements.{All-append, All-weaker, All-replicate, All-get_or, All-from_recursion, recursion_from_All}
use Rattle.std.proofs.lemmas.List.Sums.{AllPass-from_list_all, list_all-from_AllPass}

module _ {X : Type 0} (P : X → Type 0) where
  pub all_append : (xs ys : List X) → Each P xs → Each P ys → Each P (xs ++ ys)
  all_append xs ys p q = recursion_from_All P (xs ++ ys) (All-append P xs ys (All-from_recursion P xs p) (All-from_recursion P ys q))

  pub all_weaker : (Q : X → Type 0) → ((x : X) → P x → Q x) → (xs : List X) → Each P xs → Each Q xs
  all_weaker Q f xs p = recursion_from_All Q xs (All-weaker P Q f xs (All-from_recursion P xs p))

  pub all_replicate : (n : ℕ) (x : X) → P x → Each P (replicate n x)
  all_replicate n x p = recursion_from_All P (replicate n x) (All-replicate P n x p)

  pub all_at : (xs : List X) (i : ℕ) (d : X) → i < length xs → Each P xs → P (get_or xs i d)
  all_at xs i d l p = All-get_or P xs i d l (All-from_recursion P xs p)

  pub all_from_tests : (test : X → Bool) → ((x : X) → test x ≡ true → P x) → (xs : List X) → list_all test xs ≡ true → Each P xs
  all_from_tests test f xs h = recursion_from_All P xs (All-weaker (λ x. test x ≡ true) P f xs (AllPass-from_list_all test xs h))

  pub tests_from_all : (test : X → Bool) → ((x : X) → P x → test x ≡ true) → (xs : List X) → Each P xs → list_all test xs ≡ true
  tests_from_all test f xs p = list_all-from_AllPass test xs (All-weaker P (λ x. test x ≡ true) f xs (All-from_recursion P xs p))
