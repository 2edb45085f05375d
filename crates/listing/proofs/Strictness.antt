-- What is read is good, and the bytes that it is read from are the lines of what is read.
use Rattle.std.proofs.Common.{◌≡◌, ℕ, ◌<◌, Bool, true, false, cond, not, ◌&&◌, eqb, List, [], ◌∷◌, ◌++◌, length, get_or, ℤ, pos, negsuc, Some, None, decimal, Option, sym, refl, ap, ◌∙◌, subst, ⊎_elim, append_assoc, arith}
use Rattle.std.specs.List.{AllByRecursion, list_all}
use Rattle.std.proofs.lemmas.Fmt.{decimal-digits_value}
use Rattle.std.proofs.lemmas.Bool.{eqb-true, eq-eqb, and_parts, leb-true, both_ways}
use Rattle.std.specs.Char.{is_ascii_digit}
use Rattle.listing.specs.Pairs.{Pair, pair, good, good_name, good_delay, name_byte}
use Rattle.listing.specs.Forms.{Form, newline, delay_text, line, lines, ◌>>=◌, same, after, run, past, canonical, number_on, read_delay, if_good, read_line, read_on, read}
use Rattle.listing.proofs.Readings.{is_true, bind_some, own}

-- from a result that is there under a test
if_some : {X : Type 0} (b : Bool) (m : Option X) (x : X) → cond b m None ≡ Some x → (b ≡ true) × (m ≡ Some x)
if_some true m x e = (refl, e)
if_some false m x e = absurd cc

after_front : (xs bs ys : List ℕ) → after xs bs ≡ Some ys → bs ≡ xs ++ ys
after_front [] bs ys e = cc
after_front (x ∷ xs) [] ys e = absurd cc
after_front (x ∷ xs) (b ∷ bs) ys e =
    let i = if_some (eqb x b) (after xs bs) ys e in
    let h : x ≡ b = eqb-true x b i.0 in
    let k = after_front xs bs ys i.1 in
    cc

pub same_lists : (xs ys : List ℕ) → same xs ys ≡ true → xs ≡ ys
same_lists [] [] e = refl
same_lists [] (y ∷ ys) e = absurd (both_ways false refl e)
same_lists (x ∷ xs) [] e = absurd (both_ways false refl e)
same_lists (x ∷ xs) (y ∷ ys) e =
    let q = and_parts (eqb x y) (same xs ys) e in
    let h : x ≡ y = eqb-true x y q.0 in
    let k = same_lists xs ys q.1 in
    cc

module _ (is : ℕ → Bool) where
  run_past : (bs : List ℕ) → run is bs ++ past is bs ≡ bs
  run_past [] = refl
  run_past (b ∷ bs) = ⊎_elim (λ t. rw t (ap (λ xs. b ∷ xs) (run_past bs))) (λ t. rw t) (is_true (is b))

  run_every : (bs : List ℕ) → list_all is (run is bs) ≡ true
  run_every [] = refl
  run_every (b ∷ bs) = ⊎_elim (λ t. rw t (rw t (run_every bs))) (λ t. rw t) (is_true (is b))

canonical_some : (ds : List ℕ) → canonical ds ≡ true → 0 < length ds
canonical_some [] e = absurd (both_ways false refl e)
canonical_some (d ∷ []) e = omega arith
canonical_some (d ∷ (c ∷ ds)) e = omega arith

canonical_zero : (ds : List ℕ) → canonical ds ≡ true → get_or ds 0 0 ≡ 48 → length ds ≡ 1
canonical_zero [] e z = absurd (omega arith)
canonical_zero (d ∷ []) e z = refl
canonical_zero (d ∷ (c ∷ ds)) e z = absurd (both_ways (not (eqb d 48)) (rw (eq-eqb d 48 z)) e)

-- canonical digits are the decimal form of their number
digits_decimal_form : (ds : List ℕ) → list_all is_ascii_digit ds ≡ true → canonical ds ≡ true → good_delay (pos (number_on 0 ds)) ≡ true → decimal (number_on 0 ds) ≡ ds
digits_decimal_form ds e c g = decimal-digits_value own ds e (canonical_some ds c) (canonical_zero ds c) (omega (arith, leb-true (number_on 0 ds) 3600000 g))

module _ (f : Form) where
  delay_back : (bs : List ℕ) (z : ℤ) → good_delay z ≡ true → read_delay f bs ≡ Some z → bs ≡ delay_text f z
  delay_back bs z g e =
      ⊎_elim
      (λ t. let h : negsuc 0 ≡ z = some_same (rw t at e) in same_lists bs f.never t ∙ ap (delay_text f) h)
      (λ t.
      let ds = run is_ascii_digit bs in
      let i = if_some (canonical ds && same (past is_ascii_digit bs) f.unit) (Some (pos (number_on 0 ds))) z (rw t at e) in
      let q = and_parts (canonical ds) (same (past is_ascii_digit bs) f.unit) i.0 in
      let h : pos (number_on 0 ds) ≡ z = some_same i.1 in
      let u = same_lists (past is_ascii_digit bs) f.unit q.1 in
      let d = digits_decimal_form ds (run_every is_ascii_digit bs) q.0 (ap good_delay h ∙ g) in
      sym (run_past is_ascii_digit bs) ∙ ap (λ xs. ds ++ xs) u ∙ ap (λ xs. xs ++ f.unit) (sym d) ∙ ap (delay_text f) h)
      (is_true (same bs f.never)) where
        some_same : {X : Type 0} {x y : X} → Some x ≡ Some y → x ≡ y
        some_same e = cc

  line_back : (bs : List ℕ) (p : Pair) → read_line f bs ≡ Some p → (bs ++ newline ∷ [] ≡ line f p) × (good p ≡ true)
  line_back bs p e =
      let i = bind_some (after f.head bs) (λ rest. after (f.gap ∷ []) (past name_byte rest) >>= λ text. read_delay f text >>= λ delay. if_good (pair (run name_byte rest) delay)) p e in
      let rest = i.0 in
      let j = bind_some (after (f.gap ∷ []) (past name_byte rest)) (λ text. read_delay f text >>= λ delay. if_good (pair (run name_byte rest) delay)) p i.2 in
      let k = bind_some (read_delay f j.0) (λ delay. if_good (pair (run name_byte rest) delay)) p j.2 in
      let l = if_some (good (pair (run name_byte rest) k.0)) (Some (pair (run name_byte rest) k.0)) p k.2 in
      let h : pair (run name_byte rest) k.0 ≡ p = cc in
      let d = delay_back j.0 k.0 (and_parts (good_name (run name_byte rest)) (good_delay k.0) l.0).1 k.1 in
      let r : rest ≡ run name_byte rest ++ f.gap ∷ delay_text f k.0 = sym (run_past name_byte rest) ∙ ap (λ xs. run name_byte rest ++ xs) (after_front (f.gap ∷ []) (past name_byte rest) j.0 j.1 ∙ ap (λ xs. f.gap ∷ xs) d) in
      let s : bs ≡ f.head ++ (run name_byte rest ++ f.gap ∷ delay_text f k.0) = after_front f.head bs rest i.1 ∙ ap (λ xs. f.head ++ xs) r in
      let n : (f.head ++ (run name_byte rest ++ f.gap ∷ delay_text f k.0)) ++ newline ∷ [] ≡ line f (pair (run name_byte rest) k.0) = simp append_assoc in
      (ap (λ xs. xs ++ newline ∷ []) s ∙ n ∙ ap (line f) h, ap good (sym h) ∙ l.0)

  lines_back : (before bs : List ℕ) (ps : List Pair) → read_on f before bs ≡ Some ps → (before ++ bs ≡ lines f ps) × AllByRecursion (λ p. good p ≡ true) ps
  lines_back [] [] ps e = let h : [] ≡ ps = cc in subst (λ qs. ([] ≡ lines f qs) × AllByRecursion (λ p. good p ≡ true) qs) h (refl, tt)
  lines_back (b ∷ before) [] ps e = absurd cc
  lines_back before (b ∷ bs) ps e =
      ⊎_elim
      (λ t.
      let i = bind_some (read_line f before) (λ p. read_on f [] bs >>= λ qs. Some (p ∷ qs)) ps (rw t at e) in
      let j = bind_some (read_on f [] bs) (λ qs. Some (i.0 ∷ qs)) ps i.2 in
      let h : i.0 ∷ j.0 ≡ ps = cc in
      let l = line_back before i.0 i.1 in
      let m = lines_back [] bs j.0 j.1 in
      let n : b ≡ newline = eqb-true b newline t in
      let o : before ++ b ∷ bs ≡ line f i.0 ++ lines f j.0 =
      ap (λ c. before ++ c ∷ bs) n ∙ sym (append_assoc before (newline ∷ []) bs) ∙ ap (λ xs. xs ++ bs) l.0 ∙ ap (λ xs. line f i.0 ++ xs) m.0 in
      subst (λ qs. (before ++ b ∷ bs ≡ lines f qs) × AllByRecursion (λ p. good p ≡ true) qs) h (o, (l.1, m.1)))
      (λ t.
      let m = lines_back (before ++ b ∷ []) bs ps (rw t at e) in
      (sym (append_assoc before (b ∷ []) bs) ∙ m.0, m.1))
      (is_true (eqb b newline))

-- bytes that mean pairs are the lines of these pairs, and the pairs are good
pub read_back : (f : Form) (bs : List ℕ) (ps : List Pair) → read f bs ≡ Some ps → (bs ≡ lines f ps) × AllByRecursion (λ p. good p ≡ true) ps
read_back f bs ps e = lines_back f [] bs ps e
