-- The examples whose files are too long to compute with.
use Rattle.std.proofs.Common.{◌≡◌, ℕ, ◌+◌, ◌<◌, Bool, true, false, ◌||◌, ltb, [], ◌∷◌, ◌++◌, length, replicate, refl, ap, arith, lit<, length-append}
use lib.ListN.{length-replicate}
use Rattle.std.proofs.lemmas.Bool.{le-ltb, lt-ltb, or_from}
use Rattle.refusal.specs.declared.Reason.{Reason}
use Rattle.refusal.specs.declared.Reason.TheVariants.{Large}
use Rattle.refusal.specs.declared.Part.{Part}
use Rattle.refusal.specs.declared.Part.TheVariants.{Header}
use Rattle.steps.specs.Law.{field_end}
use Rattle.redbin.specs.Bytes.{words}
use Rattle.redbin.specs.Layout.{largest_file}
use Rattle.redbin.specs.Reading.{Reader, refused, because, refuse_when, start_of_file, records, whole_file, answer, read}
use Rattle.redbin.specs.Examples.{refuses, outcome, gives, long}
use Rattle.redbin.proofs.Fields.{stop, then, refuse_passes, field_reads, field_last, length_fields}
use Rattle.redbin.proofs.File.{start_reads}

refuse_stops : (b : Bool) (why : Reason) (part : Part) (place : ℕ) (r : Reader) → b ≡ true → refuse_when b why part place r ≡ refused (because why part place)
unfolding refuse_when
refuse_stops b why part place r h = rw h

long_length : (v f n : ℕ) → length (long v f n) ≡ 16 + n
long_length v f n = omega (arith, length-append (words (0 ∷ 0 ∷ [])) (replicate n 0), length_fields 4 (0 ∷ 0 ∷ []), length-replicate {A = ℕ} n 0)

is_redbin : (v f n : ℕ) → (ltb (length (long v f n)) 16 || false) ≡ false
is_redbin v f n = or_from _ _ (le-ltb (length (long v f n)) 16 (omega (arith, long_length v f n))) refl

pub too_long : (n : ℕ) → 1048560 < n → gives (long 2 0 n) ≡ refuses 5 Header 0
unfolding read whole_file start_of_file
too_long n h =
    ap (λ x. outcome (answer x))
    (stop _
    (then _ (refuse_passes _ _ _ _ _ (is_redbin 2 0 n))
    (then _ (refuse_passes _ _ _ _ _ refl)
    (then _ (refuse_passes _ _ _ _ _ refl)
    (stop _ (refuse_stops _ _ _ _ _ (lt-ltb largest_file _ (omega (arith, long_length 2 0 n)))))))))

pub wrong_version : (n : ℕ) → gives (long 1 0 n) ≡ refuses 2 Header 6
unfolding read whole_file start_of_file
wrong_version n =
    ap (λ x. outcome (answer x)) (stop _ (then _ (refuse_passes _ _ _ _ _ (is_redbin 1 0 n)) (stop _ (refuse_stops _ _ _ _ _ refl))))

pub wrong_flags : (n : ℕ) → gives (long 2 1 n) ≡ refuses 3 Header 7
unfolding read whole_file start_of_file
wrong_flags n =
    ap (λ x. outcome (answer x))
    (stop _ (then _ (refuse_passes _ _ _ _ _ (is_redbin 2 1 n)) (then _ (refuse_passes _ _ _ _ _ refl) (stop _ (refuse_stops _ _ _ _ _ refl)))))

pub just_fits : (n : ℕ) → 0 < n → n < 1048561 → gives (long 2 0 n) ≡ refuses 6 Header 12
unfolding read whole_file records
just_fits n l h =
    let Z = replicate n 0 in
    let size = length (long 2 0 n) in
    ap (λ x. outcome (answer x))
    (then _ (start_reads 0 (words (0 ∷ 0 ∷ []) ++ Z) refl (omega (arith, long_length 2 0 n)) (omega (arith, long_length 2 0 n)))
    (then _ (field_reads size Header 4 field_end Large 0 (0 ∷ []) Z [] (lit< tt) (lit< tt))
    (then _ (field_last size Header 4 field_end Large 0 Z [] (lit< tt) (lit< tt))
    (then _ refl
    (then _ refl
    (then _ (refuse_passes _ _ _ _ _ (le-ltb (length Z) 0 (omega arith)))
    (stop _ (refuse_stops _ _ _ _ _ (lt-ltb 0 (length Z) (omega (arith, length-replicate {A = ℕ} n 0)))))))))))
