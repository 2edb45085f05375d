-- What memory means once a line is written behind its used bytes.
use Rattle.std.proofs.Common.{◌≡◌, ℕ, ◌+◌, Bool, true, false, leb, List, [], ◌∷◌, ◌++◌, length, take, is_some, Some, None, Option, unwrap_or, refl, ap, ◌∙◌, arith}
use Rattle.std.proofs.lemmas.Bool.{and_parts, leb-true}
use Rattle.listing.specs.Pairs.{Pair, good}
use Rattle.listing.specs.Listings.{refusal}
use Rattle.listing.specs.Forms.{Form, Sound, line, read}
use Rattle.listing.specs.Memory.{unused, means, fits_in, written, Kept, Appended, Text}
use Rattle.listing.proofs.Readings.{read_more}
use Rattle.listing.proofs.Strictness.{read_back}
use Rattle.listing.proofs.Written.{took}

pub some_value : {X : Type 0} (m : Option X) (d : X) → is_some m ≡ true → m ≡ Some (unwrap_or m d)
some_value None d e = absurd cc
some_value (Some x) d e = refl

-- a pair that is not refused fits
accepted_fits : (good fits : Bool) → None ≡ refusal good fits → fits ≡ true
accepted_fits false fits e = absurd cc
accepted_fits true false e = absurd cc
accepted_fits true true e = refl

pub record Gained (f : Form) (xs : List ℕ) (n : ℕ) (p : Pair) (ys : List ℕ) (k : ℕ) : Type 0 where
  pub fitted : fits_in f xs n p ≡ true
  pub kept : Kept f ys k
  pub meant : means f ys k ≡ means f xs n ++ p ∷ []
  pub appended : Appended f xs n p ys k

-- a pair p that is not refused: the code writes its line behind the first n bytes of `xs`, and it ends at k
pub gained : (f : Form) → Sound f → (xs ys : List ℕ) (n k : ℕ) (p : Pair) → Kept f xs n → None ≡ refusal (good p) (fits_in f xs n p) → ys ≡ written xs n (line f p) → k ≡ n + length (line f p) → Gained f xs n p ys k
gained f s xs ys n k p w h e z =
    let fits = accepted_fits (good p) (fits_in f xs n p) h in
    let q = and_parts (good p) (leb (length (line f p)) (unused xs n)) fits in
    let m = leb-true _ _ q.1 in
    let t = took xs ys n k (line f p) e z (omega (arith, w.0)) in
    let r : read f (take k ys) ≡ Some (means f xs n ++ p ∷ []) = ap (read f) t.0 ∙ read_more f s p q.0 (take n xs) (means f xs n) (some_value (read f (take n xs)) [] w.1) in
    record {
      fitted = fits;
      kept = (omega (arith, t.1, w.0), ap is_some r);
      meant = ap (λ m. unwrap_or m []) r;
      appended = record { bytes = e; used = z; spare = omega (arith, t.1, w.0) };
    }

-- what stands in the used bytes
pub text_of : (f : Form) (xs : List ℕ) (n : ℕ) → Kept f xs n → Text f xs n (take n xs)
text_of f xs n k =
    let r = some_value (read f (take n xs)) [] k.1 in
    let h = read_back f (take n xs) (means f xs n) r in
    record { used = refl; meant = r; written_as = h.0; all_good = h.1 }
