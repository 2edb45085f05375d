-- Fields, one after another.
use Rattle.std.proofs.Common.{◌≡◌, ℕ, zero, suc, ◌+◌, ◌/◌, ◌%◌, ◌^◌, ◌<◌, ◌≤◌, arith, List, [], ◌∷◌, ◌++◌, length, get_or, take, sym, refl, ap, ◌∙◌, append_assoc}
use Rattle.std.specs.Int.{byte_at, bytes_low_first}
use Rattle.std.proofs.Math.Nat.{div-div-eq-div-mul, pow-suc}
use Rattle.std.proofs.lemmas.List.{append-nil, take_more, take_all}
use Rattle.redbin.specs.declared.width.Width.{Width}
use Rattle.redbin.specs.declared.width.Width.TheVariants.{One, Two, Four}
use Rattle.redbin.specs.Layout.{width}
use Rattle.redbin.specs.Bytes.{bytes_of, fields, words}
use Rattle.save.specs.Sinks.{Output, Gained}
use Rattle.save.proofs.Outputs.{gained_none, gained_then}

pub fields_append : (k : ℕ) (ns ms : List ℕ) → fields k (ns ++ ms) ≡ fields k ns ++ fields k ms
unfolding fields
fields_append k [] ms = refl
fields_append k (n ∷ ns) ms = ap (λ xs. bytes_of k n ++ xs) (fields_append k ns ms) ∙ sym (append_assoc (bytes_of k n) (fields k ns) (fields k ms))

pub fields_one : (k n : ℕ) → fields k (n ∷ []) ≡ bytes_of k n
unfolding fields
fields_one k n = append-nil (bytes_of k n)

-- ---- the low bytes of a number

pub width_low : (u : Width) → width u ≤ 4
width_low One = omega arith
width_low Two = omega arith
width_low Four = omega arith

low_byte : (i n : ℕ) → byte_at i n ≡ n / 256 ^ i % 256
low_byte zero n = omega arith
low_byte (suc i) n = refl

bytes_low : (k m i n : ℕ) → k ≤ m → take k (bytes_low_first i m n) ≡ bytes_of k (n / 256 ^ i)
unfolding bytes_of
bytes_low zero m i n l = refl
bytes_low (suc k) zero i n l = absurd (omega arith)
bytes_low (suc k) (suc m) i n l =
    let d : n / 256 ^ suc i ≡ n / 256 ^ i / 256 = ap (λ d. n / d) (pow-suc 256 i) ∙ sym (div-div-eq-div-mul n (256 ^ i) 256) in
    ap (λ b. b ∷ take k (bytes_low_first (suc i) m n)) (low_byte i n) ∙ ap (λ bs. n / 256 ^ i % 256 ∷ bs) (bytes_low k m (suc i) n (omega arith) ∙ ap (bytes_of k) d)

low_bytes : (k m n : ℕ) → k ≤ m → take k (bytes_low_first 0 m n) ≡ bytes_of k n
low_bytes k m n l = bytes_low k m 0 n l ∙ ap (bytes_of k) (omega arith)

all_low : (k n : ℕ) → bytes_low_first 0 k n ≡ bytes_of k n
all_low k n = sym (take_all k (bytes_low_first 0 k n) (omega (arith, length_low k 0 n))) ∙ low_bytes k k n (omega arith) where
  length_low : (k i n : ℕ) → length (bytes_low_first i k n) ≡ k
  length_low zero i n = refl
  length_low (suc k) i n = ap suc (length_low k (suc i) n)

module _ {S : Type 0} (f : S → Output) where
  -- of the bytes of a number, the first were written
  pub gained_low : (s t : S) (k m n : ℕ) (bs : List ℕ) → k ≤ m → bs ≡ bytes_low_first 0 m n → Gained f s (take k bs) t → Gained f s (bytes_of k n) t
  gained_low s t k m n bs l e g = rw (← low_bytes k m n l, ← e) g

  pub gained_all_low : (s t : S) (k n : ℕ) (bs : List ℕ) → bs ≡ bytes_low_first 0 k n → Gained f s bs t → Gained f s (bytes_of k n) t
  gained_all_low s t k n bs e g = rw (← all_low k n, ← e) g

  pub gained_word : (s t : S) (n : ℕ) → Gained f s (bytes_of 4 n) t → Gained f s (words (n ∷ [])) t
  gained_word s t n g = rw (fields_one 4 n) g

  pub fields_then : (k : ℕ) (s t u : S) (ns ms : List ℕ) → Gained f s (fields k ns) t → Gained f t (fields k ms) u → Gained f s (fields k (ns ++ ms)) u
  fields_then k s t u ns ms g h = rw (fields_append k ns ms) (gained_then f s t u (fields k ns) (fields k ms) g h)

  module _ (k : ℕ) where
    pub fields_none : (s : S) → Gained f s (fields k []) s
    unfolding fields
    fields_none s = gained_none f s

    pub fields_more : (s t u : S) (i n : ℕ) (ns : List ℕ) → i < length ns → n ≡ get_or ns i 0 → Gained f s (fields k (take i ns)) t → Gained f t (bytes_of k n) u → Gained f s (fields k (take (i + 1) ns)) u
    fields_more s t u i n ns l e g h =
        let w : Gained f t (fields k (n ∷ [])) u = rw (fields_one k n) h in
        rw (take_more ns i 0 l, ← e) (fields_then k s t u (take i ns) (n ∷ []) g w)
