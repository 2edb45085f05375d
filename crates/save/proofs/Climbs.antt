-- From a value up through its holders.
use Rattle.std.proofs.Common.{◌≡◌, ℕ, ◌+◌, ◌<◌, ◌≤◌, List, [], ◌∷◌, ◌++◌, length, sym, ap, ◌∙◌, subst, arith, length-append, length-take}
use Rattle.steps.specs.declared.parts.Node.{Node}
use Rattle.steps.specs.declared.parts.Node.TheVariants.{Root, At}
use Rattle.steps.specs.Outline.{Entry, values, inner, inner_names, path_to}
use Rattle.document.specs.declared.store.Store.{Store}
use Rattle.document.specs.Standing.{standing}
use Rattle.document.proofs.Reading.{count_is}
use Rattle.redbin.proofs.Paths.{Sound}
use Rattle.redbin.specs.Bytes.{words}
use Rattle.redbin.specs.Layout.{reference_header}
use Rattle.redbin.specs.Canonical.{reference}
use Rattle.save.specs.Sinks.{Output, Gained}
use Rattle.save.proofs.Runs.{fields_none, fields_then}
use Rattle.save.specs.Values.{oldest, above, place_of, There, first_inner}
use Rattle.save.proofs.Sane.{Under, under_more, above_under, path_above, inner_length}

pub count_below : (s : Store) → length (values (standing s)) ≤ 16384
count_below s = omega (arith, count_is s, length-take s.cells.used s.cells.memory.now, s.cells.bounded, s.cells_bound)

pub under_first : (n : ℕ) (h : Node) → Under n h → first_inner h ≤ n
under_first n Root u = omega arith
under_first n (At h) u = omega arith

pub under_there : (xs : List Entry) (h : Node) → Under (length xs) h → There xs h
under_there xs Root u = tt
under_there xs (At h) u = u

module _ (xs : List Entry) (s : Sound xs) where
  pub there_above : (t : Node) → There xs t → There xs (above xs t)
  there_above Root h = tt
  there_above (At n) h = under_there xs (above xs (At n)) (under_more n (length xs) (above xs (At n)) (omega arith) (above_under xs s n h))

  pub first_above : (n : ℕ) → n < length xs → first_inner (above xs (At n)) ≤ n
  first_above n h = under_first n (above xs (At n)) (above_under xs s n h)

  pub way_length : (n : ℕ) → n < length xs → length (path_to xs (At n)) ≡ length (path_to xs (above xs (At n))) + 1
  way_length n h = ap length (path_above xs s n h) ∙ length-append (path_to xs (above xs (At n))) (place_of xs n ∷ [])

  -- a holder comes before what it holds, and is there
  pub above_less : (a b : Node) (n : ℕ) → a ≡ At n → b ≡ above xs (At n) → There xs a → (first_inner b < first_inner a) × There xs b
  above_less a b n e g u =
      let h : n < length xs = subst (There xs) e u in
      (omega (arith, ap first_inner e, ap first_inner g, first_above n h), subst (There xs) (sym (g ∙ ap (above xs) (sym e))) (there_above a u))

  pub first_kept : (a b : Node) (n : ℕ) → a ≡ At n → b ≡ above xs (At n) → There xs a → (n < length xs) × (first_inner b ≤ n)
  first_kept a b n e g u =
      let h : n < length xs = subst (There xs) e u in
      (h, subst (λ z. first_inner z ≤ n) (sym g) (first_above n h))

  -- a path has one place more than that of the holder
  pub path_more : (a b : Node) (n d : ℕ) → a ≡ At n → b ≡ above xs (At n) → There xs a → d ≡ length (path_to xs b) → d + 1 ≡ length (path_to xs a)
  path_more a b n d e g u i =
      let h : n < length xs = subst (There xs) e u in
      omega (arith, way_length n h, ap (λ z. length (path_to xs z)) e, ap (λ z. length (path_to xs z)) g, i)

  pub first_low : (t : Node) → There xs t → first_inner t ≤ length xs
  first_low Root h = omega arith
  first_low (At m) h = omega arith

module _ {S : Type 0} (f : S → Output) where
  -- the path of a holder, and the place in it
  pub path_then : (xs : List Entry) → Sound xs → (s t u : S) (a b : Node) (n k : ℕ) → a ≡ At n → b ≡ above xs (At n) → There xs a → Gained f s (words (path_to xs b)) t
      → k ≡ length (inner_names (oldest n xs) b) → Gained f t (words (k ∷ [])) u → Gained f s (words (path_to xs a)) u
  path_then xs sound s t u a b n k e c r g i w =
      let l : n < length xs = subst (There xs) e r in
      let p : k ≡ place_of xs n = i ∙ inner_length (oldest n xs) b ∙ ap (λ z. length (inner (oldest n xs) z)) c in
      let q : path_to xs a ≡ path_to xs b ++ k ∷ [] = ap (path_to xs) e ∙ path_above xs sound n l ∙ ap (λ z. path_to xs z ++ place_of xs n ∷ []) (sym c) ∙ ap (λ m. path_to xs b ++ m ∷ []) (sym p) in
      subst (λ ns. Gained f s (words ns) u) (sym q) (fields_then f 4 s t u (path_to xs b) (k ∷ []) g w)

  pub path_none : (xs : List Entry) (s : S) (a : Node) → a ≡ Root → Gained f s (words (path_to xs a)) s
  path_none xs s a e = subst (λ z. Gained f s (words (path_to xs z)) s) (sym e) (fields_none f 4 s)

  -- the parts of a reference
  pub referred : (s t u : S) (d : ℕ) (p : List ℕ) → Gained f s (words (reference_header ∷ d ∷ [])) t → d ≡ length p → Gained f t (words p) u → Gained f s (words (reference p)) u
  referred s t u d p g e h = fields_then f 4 s t u (reference_header ∷ length p ∷ []) p (subst (λ n. Gained f s (words (reference_header ∷ n ∷ [])) t) e g) h
