-- What is written as fields is read back as the same fields.
use Rattle.std.proofs.Common.{◌≡◌, ℕ, zero, suc, ◌*◌, ◌/◌, ◌^◌, ◌<◌, ◌≤◌, Bool, true, false, ltb, List, [], ◌∷◌, ◌++◌, length, take, drop, refl, ap, append_assoc, arith, length-append}
use Rattle.std.proofs.lemmas.List.{take_at, drop_at}
use Rattle.std.proofs.lemmas.Bool.{le-ltb, lt-ltb}
use Rattle.steps.specs.Steps.{Steps}
use Rattle.std.specs.List.{AllByRecursion as Each}
use Rattle.redbin.specs.Bytes.{bytes_of, number, fields}
use Rattle.redbin.specs.Reading.{Reader, Read, Reads, got, refused, after, refuse_when, enough, below, series, run}
use Rattle.refusal.specs.declared.Part.{Part}
use Rattle.refusal.specs.declared.Reason.{Reason}
use Rattle.refusal.specs.declared.Refusal.{Refusal}

abbrev pub rd : List ℕ → Steps → Reader
rd bs e = record { rest = bs; steps = e }

pub number_bytes : (k n : ℕ) → n < 256 ^ k → number (bytes_of k n) ≡ n
unfolding number bytes_of
number_bytes zero n h = omega arith
number_bytes (suc k) n h =
    let ih = number_bytes k (n / 256) (omega arith) in
    omega (arith, ih)

pub length_bytes : (k n : ℕ) → length (bytes_of k n) ≡ k
unfolding bytes_of
length_bytes zero n = refl
length_bytes (suc k) n = ap suc (length_bytes k (n / 256))

pub then : {A B : Type 0} {x : Read A} (k : A → Reads B) {a : A} {r : Reader} {z : Read B} → x ≡ got a r → k a r ≡ z → after x k ≡ z
unfolding after
then k p q = rw p q

pub stop : {A B : Type 0} {x : Read A} (k : A → Reads B) {w : Refusal} → x ≡ refused w → after x k ≡ refused w
unfolding after
stop k p = rw p

pub below_reads : (size : ℕ) (part : Part) (unit limit : ℕ) (why : Reason) (n : ℕ) (more : List ℕ) (e : Steps)
    → n < 256 ^ unit → n < limit → below size part unit limit why (rd (bytes_of unit n ++ more) e) ≡ got n (rd more e)
unfolding below
below_reads size part unit limit why n more e fits low =
    let l : ltb (length (bytes_of unit n ++ more)) unit ≡ false = le-ltb _ _ (omega (arith, length-append (bytes_of unit n) more, length_bytes unit n)) in
    let t : take unit (bytes_of unit n ++ more) ≡ bytes_of unit n = take_at _ _ unit (length_bytes unit n) in
    let d : drop unit (bytes_of unit n ++ more) ≡ more = drop_at _ _ unit (length_bytes unit n) in
    let v : number (bytes_of unit n) ≡ n = number_bytes unit n fits in
    let b : ltb n limit ≡ true = lt-ltb _ _ low in
    rw (l, t, d, v, b) refl

-- the first of several fields
pub field_reads : (size : ℕ) (part : Part) (unit limit : ℕ) (why : Reason) (n : ℕ) (ns : List ℕ) (more : List ℕ) (e : Steps)
    → n < 256 ^ unit → n < limit → below size part unit limit why (rd (fields unit (n ∷ ns) ++ more) e) ≡ got n (rd (fields unit ns ++ more) e)
unfolding fields
field_reads size part unit limit why n ns more e fits low =
    rw (append_assoc (bytes_of unit n) (fields unit ns) more) (below_reads size part unit limit why n (fields unit ns ++ more) e fits low)

-- all numbers are below a limit
abbrev pub Below : ℕ → List ℕ → Type 0
Below limit ns = Each (λ n. n < limit) ns

pub series_reads : (size : ℕ) (part : Part) (unit limit : ℕ) (why : Reason) (ns : List ℕ) (more : List ℕ) (e : Steps)
    → Below (256 ^ unit) ns → Below limit ns → series size part unit limit why (length ns) (rd (fields unit ns ++ more) e) ≡ got ns (rd more e)
unfolding series fields
series_reads size part unit limit why [] more e fits low = refl
series_reads size part unit limit why (n ∷ ns) more e fits low =
    then _ (field_reads size part unit limit why n ns more e fits.0 low.0)
    (then _ (series_reads size part unit limit why ns more e fits.1 low.1) refl)

pub length_fields : (unit : ℕ) (ns : List ℕ) → length (fields unit ns) ≡ length ns * unit
unfolding fields
length_fields unit [] = omega arith
length_fields unit (n ∷ ns) = omega (arith, length-append (bytes_of unit n) (fields unit ns), length_bytes unit n, length_fields unit ns)

pub enough_reads : (size : ℕ) (part : Part) (n : ℕ) (bytes : List ℕ) (e : Steps) → n ≤ length bytes → enough size part n (rd bytes e) ≡ got tt (rd bytes e)
unfolding enough
enough_reads size part n bytes e h = rw (le-ltb (length bytes) n h)

pub run_reads : (size : ℕ) (part : Part) (unit limit : ℕ) (why : Reason) (ns : List ℕ) (more : List ℕ) (e : Steps)
    → Below (256 ^ unit) ns → Below limit ns → run size part unit limit why (length ns) (rd (fields unit ns ++ more) e) ≡ got ns (rd more e)
unfolding run
run_reads size part unit limit why ns more e fits low =
    then _ (enough_reads size part (length ns * unit) (fields unit ns ++ more) e (omega (arith, length-append (fields unit ns) more, length_fields unit ns)))
    (series_reads size part unit limit why ns more e fits low)

-- the last of several fields
pub field_last : (size : ℕ) (part : Part) (unit limit : ℕ) (why : Reason) (n : ℕ) (more : List ℕ) (e : Steps)
    → n < 256 ^ unit → n < limit → below size part unit limit why (rd (fields unit (n ∷ []) ++ more) e) ≡ got n (rd more e)
unfolding fields
field_last size part unit limit why n more e fits low = field_reads size part unit limit why n [] more e fits low

pub refuse_passes : (b : Bool) (why : Reason) (part : Part) (place : ℕ) (r : Reader) → b ≡ false → refuse_when b why part place r ≡ got tt r
unfolding refuse_when
refuse_passes b why part place r h = rw h
