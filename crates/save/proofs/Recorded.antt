-- Records of values that hold no others, part after part.
use Rattle.std.proofs.Common.{◌≡◌, ℕ, ◌+◌, ◌-◌, ◌*◌, ◌/◌, ◌%◌, ◌<◌, ◌≤◌, Bool, true, false, cond, eqb, List, [], ◌∷◌, ◌++◌, length, ℤ, pos, negsuc, w32, sym, refl, ap, ◌∙◌, subst, ⊎_elim, mul_assoc, mul_comm, mul-add, arith}
use mir.Val.{bool_byte, SFits, of_z, to_z}
use Rattle.std.proofs.lemmas.Int.{to_z-of_z}
use Rattle.std.specs.Int.{next_multiple_of}
use Rattle.std.proofs.lemmas.Bool.{eq-eqb, ne_eqb, cases_lt}
use Rattle.steps.specs.Steps.{Tag, put, none, logic, char, integer, float, text}
use Rattle.steps.specs.Outline.{Entry}
use Rattle.steps.specs.declared.parts.TextKind.{TextKind}
use Rattle.redbin.specs.declared.form.Form.TheVariants.{Nothing as is_none, Logic as is_logic, Char as is_char, Integer as is_integer, Float as is_float, Text as is_text}
use Rattle.redbin.specs.Bytes.{bytes_of, fields, words, fill, zeros}
use Rattle.redbin.specs.declared.width.Width.{Width}
use Rattle.redbin.specs.Layout.{width, header}
use Rattle.redbin.specs.Canonical.{narrowest, bits32, padding, record_of}
use Rattle.save.specs.Sinks.{Output, full, extend, Gained}
use Rattle.save.specs.Records.{Placed}
use Rattle.save.proofs.Outputs.{gained_then, extend_none, extend_full}
use Rattle.save.proofs.Runs.{fields_then}

-- where the output is not full, the place is how many bytes came since the start
place_is : (o : Output) (start place : ℕ) → start ≤ o.size → Placed o start place → o.size < full → o.size - start ≡ place
place_is o start place s p l = omega arith

pub padded : (o : Output) (start place : ℕ) → start ≤ o.size → Placed o start place → (o.size - start) % 8 ≡ 0 → extend o (words (0 ∷ [])) ≡ extend o (padding place)
padded o start place s p h =
    ⊎_elim
    (λ l. let e : eqb (place % 8) 0 ≡ true = eq-eqb _ _ (ap (λ n. n % 8) (sym (place_is o start place s p l)) ∙ h) in rw e)
    (λ l. extend_full o _ l ∙ sym (extend_full o _ l))
    (cases_lt o.size full)

pub unpadded : (o : Output) (start place : ℕ) → start ≤ o.size → Placed o start place → ((o.size - start) % 8 ≡ 0 → ⊥) → o ≡ extend o (padding place)
unpadded o start place s p h =
    ⊎_elim
    (λ l. let e : eqb (place % 8) 0 ≡ false = ne_eqb _ _ (λ q. h (ap (λ n. n % 8) (place_is o start place s p l) ∙ q)) in rw e (sym (extend_none o)))
    (λ l. sym (extend_full o _ l))
    (cases_lt o.size full)

module _ {S : Type 0} (f : S → Output) (all before : List Entry) (place : ℕ) (l : Tag) where
  pub none_recorded : (s t : S) (h : ℕ) → h ≡ header is_none l.new_line → Gained f s (words (h ∷ [])) t → Gained f s (record_of all before place l (put none)) t
  unfolding record_of
  none_recorded s t h e g = subst (λ x. Gained f s (words (x ∷ [])) t) e g

  pub logic_recorded : (s t : S) (b : Bool) (h n : ℕ) → h ≡ header is_logic l.new_line → n ≡ cond b 1 0 → Gained f s (words (h ∷ n ∷ [])) t → Gained f s (record_of all before place l (put (logic b))) t
  unfolding record_of
  logic_recorded s t b h n e d g = subst (λ x. Gained f s (words (x ∷ cond b 1 0 ∷ [])) t) e (subst (λ x. Gained f s (words (h ∷ x ∷ [])) t) d g)

  pub char_recorded : (s t : S) (h n : ℕ) → h ≡ header is_char l.new_line → Gained f s (words (h ∷ n ∷ [])) t → Gained f s (record_of all before place l (put (char n))) t
  unfolding record_of
  char_recorded s t h n e g = subst (λ x. Gained f s (words (x ∷ n ∷ [])) t) e g

  pub integer_recorded : (s t : S) (z : ℤ) (h n : ℕ) → h ≡ header is_integer l.new_line → n ≡ bits32 z → Gained f s (words (h ∷ n ∷ [])) t → Gained f s (record_of all before place l (put (integer z))) t
  unfolding record_of
  integer_recorded s t z h n e d g = subst (λ x. Gained f s (words (x ∷ bits32 z ∷ [])) t) e (subst (λ x. Gained f s (words (h ∷ x ∷ [])) t) d g)

  pub float_recorded : (s t u v : S) (h n : ℕ) → Gained f s (padding place) t → h ≡ header is_float l.new_line → Gained f t (words (h ∷ [])) u → Gained f u (bytes_of 8 n) v → Gained f s (record_of all before place l (put (float n))) v
  unfolding record_of
  float_recorded s t u v h n p e g k =
      gained_then f s t v (padding place) (words (header is_float l.new_line ∷ []) ++ bytes_of 8 n) p
      (gained_then f t u v (words (header is_float l.new_line ∷ [])) (bytes_of 8 n) (subst (λ x. Gained f t (words (x ∷ [])) u) e g) k)

  pub text_recorded : (s t u v w : S) (k : TextKind) (n h z : ℕ) (a : Width) (ps : List ℕ) → a ≡ narrowest ps → h ≡ header (is_text k a) l.new_line → Gained f s (words (h ∷ n ∷ [])) t
      → Gained f t (words (length ps ∷ [])) u → Gained f u (fields (width a) ps) v → z ≡ fill 4 (width a * length ps) → Gained f v (zeros z) w → Gained f s (record_of all before place l (put (text k n ps))) w
  unfolding record_of
  text_recorded s t u v w k n h z a ps d e g i j q m =
      let x : Gained f s (words (h ∷ n ∷ length ps ∷ [])) u = fields_then f 4 s t u (h ∷ n ∷ []) (length ps ∷ []) g i in
      let y : Gained f u (fields (width a) ps ++ zeros z) w = gained_then f u v w (fields (width a) ps) (zeros z) j m in
      let r : Gained f s (words (h ∷ n ∷ length ps ∷ []) ++ (fields (width a) ps ++ zeros z)) w = gained_then f s u w _ _ x y in
      subst (λ b. Gained f s (words (header (is_text k b) l.new_line ∷ n ∷ length ps ∷ []) ++ (fields (width b) ps ++ zeros (fill 4 (width b * length ps)))) w) d
      (subst (λ c. Gained f s (words (c ∷ n ∷ length ps ∷ []) ++ (fields (width a) ps ++ zeros (fill 4 (width a * length ps)))) w) e
      (subst (λ c. Gained f s (words (h ∷ n ∷ length ps ∷ []) ++ (fields (width a) ps ++ zeros c)) w) q r))

-- how many zeros follow, reckoned from what is left of the length
pub fill_last : (m u w n : ℕ) → u ≡ w → m ≡ next_multiple_of (u * (n % 4)) 4 → m - u * (n % 4) ≡ fill 4 (w * n)
fill_last m u w n i h =
    let d : n ≡ n % 4 + 4 * (n / 4) = omega arith in
    let e : u * n ≡ u * (n % 4) + 4 * (u * (n / 4)) = ap (λ x. u * x) d ∙ mul-add u (n % 4) (4 * (n / 4)) ∙ ap (λ x. u * (n % 4) + x) (sym (mul_assoc u 4 (n / 4)) ∙ ap (λ x. x * (n / 4)) (mul_comm u 4) ∙ mul_assoc 4 u (n / 4)) in
    omega (arith, ap (λ x. x * n) i)

pub bool_byte_lem : (b : Bool) → bool_byte b ≡ cond b 1 0
bool_byte_lem true = refl
bool_byte_lem false = refl

pub bits_are : (z : ℤ) → SFits w32 z → of_z w32 (to_z w32 (of_z w32 z)) ≡ bits32 z
bits_are z h = ap (of_z w32) (to_z-of_z w32 z h) ∙ go z where
  go : (z : ℤ) → of_z w32 z ≡ bits32 z
  go (pos n) = refl
  go (negsuc n) = omega arith
