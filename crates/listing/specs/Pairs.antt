-- Pairs of a name and a delay, and which of them are good.
use Rattle.std.specs.Prelude.{ℕ, Bool, not, ◌&&◌, ◌||◌, List, length, ℤ, pos, negsuc, ◌==◌, int_le, slice_index}
use Rattle.std.specs.Char.{is_ascii_digit, is_ascii_alphanumeric}
use Rattle.std.specs.Int.{is_in_range}
use Rattle.std.specs.List.{list_all}
use Rattle.listing.specs.declared.pairs.Entry.{Entry}

pub record Pair : Type 0 where
  pub name : List ℕ
  pub delay : ℤ

abbrev pub pair : List ℕ → ℤ → Pair
pair n d = record { name = n; delay = d }

-- the pair that an entry stands for
abbrev pub pair_of : Entry → Pair
pair_of e = pair e.name.now e.delay

-- an ASCII letter, digit or underscore
abbrev pub name_byte : ℕ → Bool
name_byte c = is_ascii_alphanumeric c || c == 95

-- 1 to 63 such bytes, of which the first is no digit
abbrev pub good_name : List ℕ → Bool
good_name cs = is_in_range 1 63 (length cs) && (not (is_ascii_digit (slice_index cs 0)) && list_all name_byte cs)

-- from -1, never, to an hour in milliseconds
abbrev pub good_delay : ℤ → Bool
good_delay z = int_le (negsuc 0) z && int_le z (pos 3600000)

abbrev pub good : Pair → Bool
good p = good_name p.name && good_delay p.delay
