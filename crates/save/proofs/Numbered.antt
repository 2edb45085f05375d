-- The inner values, as a chain over the numbers gives them.
use Rattle.std.proofs.Common.{◌≡◌, ℕ, zero, suc, ◌+◌, ◌-◌, ◌≤◌, Bool, true, false, cond, List, [], ◌∷◌, ◌++◌, length, filter, sym, refl, ap, ◌∙◌, add-one, arith}
use Rattle.std.specs.List.{range_with_len}
use Rattle.std.proofs.lemmas.List.{map-append, length-map}
use Rattle.std.proofs.lemmas.List.Elements.{filter-append}
use Rattle.steps.specs.declared.parts.Node.{Node}
use Rattle.steps.specs.Outline.{Entry, entry_at, inner_names, held_by}
use Rattle.save.specs.Values.{oldest, name_in, names_of, inner_of}
use Rattle.save.proofs.Oldest.{inner_more}

pub range_push : (a n : ℕ) → range_with_len a (n + 1) ≡ range_with_len a n ++ (a + n) ∷ []
range_push a zero = let e : a ≡ a + 0 = omega arith in ap (λ k. k ∷ []) e
range_push a (suc n) =
    let e : a + 1 + n ≡ a + suc n = omega arith in
    let d : suc n + 1 ≡ suc (n + 1) = omega arith in
    ap (range_with_len a) d ∙ ap (λ xs. a ∷ xs) (range_push (a + 1) n ∙ ap (λ k. range_with_len (a + 1) n ++ k ∷ []) e)

module _ (xs : List Entry) (h : Node) where
  inner_push : (low n : ℕ) → inner_of xs h low (n + 1) ≡ inner_of xs h low n ++ cond (held_by (entry_at xs (low + n)) h) ((low + n) ∷ []) []
  inner_push low n = ap (filter (λ v. held_by (entry_at xs v) h)) (range_push low n) ∙ filter-append (λ v. held_by (entry_at xs v) h) (range_with_len low n) ((low + n) ∷ [])

  -- before `low` there is none
  pub inner_since : (low n : ℕ) → inner_names (oldest low xs) h ≡ [] → low + n ≤ length xs → inner_names (oldest (low + n) xs) h ≡ names_of xs (inner_of xs h low n)
  inner_since low zero e l = ap (λ k. inner_names (oldest k xs) h) (omega arith) ∙ e
  inner_since low (suc n) e l =
      let k : low + suc n ≡ low + n + 1 = omega arith in
      ap (λ j. inner_names (oldest j xs) h) k ∙ inner_more xs h (low + n) (omega arith) ∙ ap (λ ns. ns ++ cond (held_by (entry_at xs (low + n)) h) (name_in (entry_at xs (low + n)) ∷ []) []) (inner_since low n e (omega arith))
      ∙ sym (ap (λ j. names_of xs (inner_of xs h low j)) (sym (add-one n)) ∙ ap (names_of xs) (inner_push low n) ∙ map-append (λ v. name_in (entry_at xs v)) (inner_of xs h low n) _ ∙ ap (λ ns. names_of xs (inner_of xs h low n) ++ ns) (one (held_by (entry_at xs (low + n)) h)))
    where
      one : (b : Bool) → names_of xs (cond b ((low + n) ∷ []) []) ≡ cond b (name_in (entry_at xs (low + n)) ∷ []) []
      one true = refl
      one false = refl

  pub inner_until : (low end : ℕ) → inner_names (oldest low xs) h ≡ [] → low ≤ end → end ≤ length xs → inner_names (oldest end xs) h ≡ names_of xs (inner_of xs h low (end - low))
  inner_until low end e l m =
      let k : end ≡ low + (end - low) = omega arith in
      ap (λ j. inner_names (oldest j xs) h) k ∙ inner_since low (end - low) e (omega arith)

  pub count_until : (low end : ℕ) → inner_names (oldest low xs) h ≡ [] → low ≤ end → end ≤ length xs → length (inner_names (oldest end xs) h) ≡ length (inner_of xs h low (end - low))
  count_until low end e l m = ap length (inner_until low end e l m) ∙ length-map (inner_of xs h low (end - low)) (λ v. name_in (entry_at xs v))
