-- How long the lines of good pairs are.
use Rattle.std.specs.Prelude.{◌≡◌, ℕ, ◌+◌, ◌≤◌, true, List, length, max, pos, negsuc, decimal, ℤ}
use Rattle.std.specs.List.{list_all}
use Rattle.std.proofs.Common.{arith, length-append}
use Rattle.std.proofs.lemmas.Bool.{and_parts, leb-true, le-leb}
use Rattle.std.proofs.lemmas.Fmt.{length-decimal-le}
use Rattle.listing.specs.Pairs.{Pair, good, good_name, good_delay, name_byte}
use Rattle.listing.specs.Forms.{Form, delay_text, line, longest_line}
use Rattle.listing.specs.Memory.{unused, fits_in}

pub length_line : (f : Form) (p : Pair) → length (line f p) ≡ length f.head + length p.name + 2 + length (delay_text f p.delay)
length_line f p = simp length-append (omega arith)

-- what is known of a good pair
pub record Parts (p : Pair) : Type 0 where
  pub short : length p.name ≤ 63
  pub plain : list_all name_byte p.name ≡ true
  pub timed : good_delay p.delay ≡ true

pub parts : (p : Pair) → good p ≡ true → Parts p
parts p g =
    let a = and_parts (good_name p.name) (good_delay p.delay) g in
    let b = and_parts _ _ a.0 in
    record { short = leb-true _ _ (and_parts _ _ b.0).1; plain = (and_parts _ _ b.1).1; timed = a.1 }

-- a good delay has at most seven digits
delay_short : (f : Form) (z : ℤ) → good_delay z ≡ true → length (delay_text f z) ≤ max (length f.never) (7 + length f.unit)
delay_short f (pos n) h =
    let k = leb-true n 3600000 h in
    let l = length-append (decimal n) f.unit in
    omega (arith, length-decimal-le 7 n (omega arith) (omega arith) (omega arith))
delay_short f (negsuc n) h = omega arith

pub line_short : (f : Form) (p : Pair) → good p ≡ true → length (line f p) ≤ longest_line f
line_short f p g = let k = parts p g in let d = delay_short f p.delay k.timed in rw length_line (omega arith)

-- a good pair fits where a line as long as any fits
pub fits_longest : (f : Form) (xs : List ℕ) (n : ℕ) (p : Pair) → good p ≡ true → longest_line f ≤ unused xs n → fits_in f xs n p ≡ true
fits_longest f xs n p g h = rw g (le-leb (length (line f p)) (unused xs n) (omega (arith, line_short f p g)))
