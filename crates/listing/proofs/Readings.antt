-- A reader takes from a line the pair that it was written for, and from no line a bad pair.
use Rattle.std.proofs.Common.{◌≡◌, ℕ, ◌^◌, ◌<◌, Bool, true, false, not, eqb, leb, ◌⊎◌, List, [], ◌∷◌, ◌++◌, length, get_or, ℤ, pos, negsuc, Some, None, decimal, Option, sym, refl, ap, ◌∙◌, inl, inr, ⊎_elim, append_assoc, arith, rules}
use Rattle.std.proofs.lemmas.Fmt.{decimal_nonempty, first_decimal, digits_decimal, digits_value-decimal, decimal_digit}
use Rattle.std.proofs.lemmas.Str.Parse.{IsNumeralModel, numerals_by_fold}
use Rattle.std.proofs.lemmas.List.{append-nil}
use Rattle.std.proofs.lemmas.List.Folds.{list_all-append}
use Rattle.std.proofs.lemmas.Bool.{eq-eqb, ne_eqb, and_parts, leb-true, both_ways}
use Rattle.std.specs.Char.{is_ascii_digit}
use Rattle.std.specs.List.{list_all}
use Rattle.listing.specs.Pairs.{Pair, good, good_delay, name_byte}
use Rattle.listing.specs.Sizes.{parts}
use Rattle.listing.specs.Forms.{Form, Sound, Lacks, newline, delay_text, line, ◌>>=◌, same, after, run, past, canonical, number_on, read_delay, read_line, read_on, read}

pub is_true : (b : Bool) → (b ≡ true) ⊎ (b ≡ false)
is_true true = inl refl
is_true false = inr refl

-- ---- optional results

pub bind_some : {A B : Type 0} (m : Option A) (k : A → Option B) (b : B) → (m >>= k) ≡ Some b → (a : A) × (m ≡ Some a) × (k a ≡ Some b)
bind_some None k b e = absurd cc
bind_some (Some a) k b e = (a, refl, e)

bind_self : {X : Type 0} (m : Option (List X)) → m ≡ (m >>= λ xs. Some ([] ++ xs))
bind_self None = refl
bind_self (Some xs) = refl

bind_cons : {X : Type 0} (m : Option (List X)) (x : X) (ys : List X) → ((m >>= λ zs. Some (ys ++ zs)) >>= λ zs. Some (x ∷ zs)) ≡ (m >>= λ zs. Some ((x ∷ ys) ++ zs))
bind_cons None x ys = refl
bind_cons (Some zs) x ys = refl

-- ---- lines that have ended, and then more bytes

module _ (f : Form) where
  pub read_apart : (before bs rest : List ℕ) (ps : List Pair) → read_on f before bs ≡ Some ps → read_on f before (bs ++ rest) ≡ (read_on f [] rest >>= λ qs. Some (ps ++ qs))
  read_apart [] [] rest ps e = let h : [] ≡ ps = cc in rw (← h) (bind_self (read_on f [] rest))
  read_apart (b ∷ before) [] rest ps e = absurd cc
  read_apart before (b ∷ bs) rest ps e =
      ⊎_elim
      (λ t.
      let i = bind_some (read_line f before) (λ p. read_on f [] bs >>= λ qs. Some (p ∷ qs)) ps (rw t at e) in
      let j = bind_some (read_on f [] bs) (λ qs. Some (i.0 ∷ qs)) ps i.2 in
      let k : i.0 ∷ j.0 ≡ ps = cc in
      rw (t, i.1, read_apart [] bs rest j.0 j.1) (bind_cons (read_on f [] rest) i.0 j.0 ∙ ap (λ xs. read_on f [] rest >>= λ qs. Some (xs ++ qs)) k))
      (λ t. rw t (read_apart (before ++ b ∷ []) bs rest ps (rw t at e)))
      (is_true (eqb b newline))

  -- one line
  read_one : (before xs : List ℕ) (p : Pair) → Lacks newline xs → read_line f (before ++ xs) ≡ Some p → read_on f before (xs ++ newline ∷ []) ≡ Some (p ∷ [])
  read_one before [] p n e = let h : read_line f before ≡ Some p = rw append-nil at e in rw h
  read_one before (x ∷ xs) p n e =
      let q = and_parts (not (eqb x newline)) (list_all (λ b. not (eqb b newline)) xs) n in
      let t : eqb x newline ≡ false = search (rules, q.0) in
      rw t (read_one (before ++ x ∷ []) xs p q.1 (rw append_assoc e))

-- ---- the parts of a line

after_own : (xs ys : List ℕ) → after xs (xs ++ ys) ≡ Some ys
after_own [] ys = refl
after_own (x ∷ xs) ys = rw (eq-eqb x x refl) (after_own xs ys)

pub same_own : (xs : List ℕ) → same xs xs ≡ true
same_own [] = refl
same_own (x ∷ xs) = rw (eq-eqb x x refl) (same_own xs)

module _ (is : ℕ → Bool) where
  run_own : (d : ℕ) (xs ys : List ℕ) → list_all is xs ≡ true → is (get_or ys 0 d) ≡ false → run is (xs ++ ys) ≡ xs
  run_own d [] [] e h = refl
  run_own d [] (y ∷ ys) e h = rw h
  run_own d (x ∷ xs) ys e h = let q = and_parts (is x) (list_all is xs) e in rw q.0 (ap (λ zs. x ∷ zs) (run_own d xs ys q.1 h))

  past_own : (d : ℕ) (xs ys : List ℕ) → list_all is xs ≡ true → is (get_or ys 0 d) ≡ false → past is (xs ++ ys) ≡ ys
  past_own d [] [] e h = refl
  past_own d [] (y ∷ ys) e h = rw h
  past_own d (x ∷ xs) ys e h = let q = and_parts (is x) (list_all is xs) e in rw q.0 (past_own d xs ys q.1 h)

-- ---- delays

-- the digits of this reader are those of the language's library
pub own : IsNumeralModel (λ ds. list_all is_ascii_digit ds ≡ true) (number_on 0)
own = numerals_by_fold _ (search rules) number_on (search rules)

canonical_decimal : (n : ℕ) → n < 2 ^ 64 → canonical (decimal n) ≡ true
canonical_decimal n h = ⊎_elim
    (λ z. ap (λ m. canonical (decimal m)) z ∙ ap canonical (decimal_digit 0 (omega arith)))
    (λ p. by_first (decimal n) (decimal_nonempty n h) (first_decimal n p h))
    (either n) where
      either : (n : ℕ) → (n ≡ 0) ⊎ (0 < n)
      either ℕ.zero = inl refl
      either (ℕ.suc m) = inr (omega arith)

      by_first : (ds : List ℕ) → 0 < length ds → 48 < get_or ds 0 0 → canonical ds ≡ true
      by_first [] l k = absurd (omega arith)
      by_first (c ∷ []) l k = refl
      by_first (c ∷ (d ∷ ds)) l k = rw (ne_eqb c 48 (λ e. omega arith))

-- text that begins with a digit is not that of `never`
not_never : (ds rest never : List ℕ) → 0 < length ds → list_all is_ascii_digit ds ≡ true → is_ascii_digit (get_or never 0 48) ≡ false → same (ds ++ rest) never ≡ false
not_never [] rest never l e h = absurd (omega arith)
not_never (d ∷ ds) rest [] l e h = refl
not_never (d ∷ ds) rest (v ∷ vs) l e h =
    let k : eqb d v ≡ false = ne_eqb d v (λ q. both_ways (is_ascii_digit v) h (ap is_ascii_digit (sym q) ∙ (and_parts (is_ascii_digit d) (list_all is_ascii_digit ds) e).0)) in
    rw k

module _ (f : Form) (s : Sound f) where
  read_delay_text : (z : ℤ) → good_delay z ≡ true → read_delay f (delay_text f z) ≡ Some z
  read_delay_text (pos n) h =
      let b : n < 2 ^ 64 = omega (arith, leb-true n 3600000 h) in
      let ds = digits_decimal own n b in
      rw (not_never (decimal n) f.unit f.never (decimal_nonempty n b) ds s.never_apart, run_own is_ascii_digit 0 (decimal n) f.unit ds s.unit_apart, past_own is_ascii_digit 0 (decimal n) f.unit ds s.unit_apart, canonical_decimal n b, same_own f.unit, digits_value-decimal own n b)
  read_delay_text (negsuc n) h =
      let e : 0 ≡ n = omega (arith, leb-true n 0 (and_parts (leb n 0) true h).0) in
      rw (same_own f.never) (ap (λ m. Some (negsuc m)) e)

-- ---- lines

-- bytes of which each passes a test pass a weaker one
every_weaker : (is' is : ℕ → Bool) → ((c : ℕ) → is' c ≡ true → is c ≡ true) → (cs : List ℕ) → list_all is' cs ≡ true → list_all is cs ≡ true
every_weaker is' is w [] e = refl
every_weaker is' is w (c ∷ cs) e = let q = and_parts (is' c) (list_all is' cs) e in rw (w c q.0) (every_weaker is' is w cs q.1)

every_append : (is : ℕ → Bool) (xs ys : List ℕ) → list_all is xs ≡ true → list_all is ys ≡ true → list_all is (xs ++ ys) ≡ true
every_append is xs ys e h = rw (list_all-append, e) h

-- a newline is no name byte
clear_byte : (is : ℕ → Bool) → is newline ≡ false → (c : ℕ) → is c ≡ true → not (eqb c newline) ≡ true
clear_byte is h c e = let k : eqb c newline ≡ false = ne_eqb c newline (λ q. both_ways (is newline) h (ap is (sym q) ∙ e)) in rw k

clear_delay : (f : Form) → Sound f → (z : ℤ) → good_delay z ≡ true → Lacks newline (delay_text f z)
clear_delay f s (pos n) h =
    let b : n < 2 ^ 64 = omega (arith, leb-true n 3600000 h) in
    every_append _ (decimal n) f.unit (every_weaker is_ascii_digit _ (clear_byte is_ascii_digit refl) (decimal n) (digits_decimal own n b)) s.unit_clear
clear_delay f s (negsuc n) h = s.never_clear

module _ (f : Form) (s : Sound f) (p : Pair) (g : good p ≡ true) where
  abbrev text : List ℕ
  text = f.head ++ (p.name ++ f.gap ∷ delay_text f p.delay)

  clear : Lacks newline text
  clear =
      let k = parts p g in
      let c : not (eqb f.gap newline) ≡ true = rw s.gap_clear in
      let d : Lacks newline (f.gap ∷ delay_text f p.delay) = rw c (clear_delay f s p.delay k.timed) in
      every_append _ f.head _ s.head_clear (every_append _ p.name _ (every_weaker name_byte _ (clear_byte name_byte refl) p.name k.plain) d)

  read_text : read_line f text ≡ Some p
  read_text =
      let k = parts p g in
      let rest = p.name ++ f.gap ∷ delay_text f p.delay in
      rw (after_own f.head rest, past_own name_byte 0 p.name (f.gap ∷ delay_text f p.delay) k.plain s.gap_apart, run_own name_byte 0 p.name (f.gap ∷ delay_text f p.delay) k.plain s.gap_apart, eq-eqb f.gap f.gap refl, read_delay_text f s p.delay k.timed, g)

  -- one more line, and the pair that it stands for
  pub read_more : (bs : List ℕ) (ps : List Pair) → read f bs ≡ Some ps → read f (bs ++ line f p) ≡ Some (ps ++ p ∷ [])
  read_more bs ps e =
      let l : line f p ≡ text ++ newline ∷ [] = simp append_assoc in
      let o : read f (line f p) ≡ Some (p ∷ []) = ap (read f) l ∙ read_one f [] text p clear read_text in
      read_apart f [] bs (line f p) ps e ∙ ap (λ m. m >>= λ qs. Some (ps ++ qs)) o
