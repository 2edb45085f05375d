-- The lines that stand for pairs, and what a reader takes from them.
use Rattle.std.specs.Prelude.{◌≡◌, ℕ, ◌+◌, ◌-◌, ◌*◌, ◌≤◌, Bool, true, false, cond, not, ◌&&◌, List, [], ◌∷◌, ◌++◌, length, max, ℤ, pos, negsuc, Some, None, codes, decimal, Option, ◌==◌, bytes_eq, nat_eq, slice_index, slice_index_or}
use Rattle.std.specs.Char.{is_ascii_digit}
use Rattle.std.specs.List.{list_all}
use Rattle.listing.specs.Pairs.{Pair, pair, good, name_byte}

infixl 10 ◌>>=◌
-- what stands before the name, the byte between name and delay, the text of the delay -1, and what follows the digits of any other
pub record Form : Type 0 where
  pub head : List ℕ
  pub gap : ℕ
  pub never : List ℕ
  pub unit : List ℕ

abbrev pub header : Form
header = record { head = codes "#define PURGE_"; gap = 32; never = codes "-1"; unit = [] }

abbrev pub table : Form
table = record { head = []; gap = 9; never = codes "never"; unit = codes " ms" }

abbrev pub newline : ℕ
newline = 10

-- ---- what is written

abbrev pub delay_text : Form → ℤ → List ℕ
delay_text f (pos n) = decimal n ++ f.unit
delay_text f (negsuc n) = f.never

abbrev pub line : Form → Pair → List ℕ
line f p = f.head ++ (p.name ++ (f.gap ∷ (delay_text f p.delay ++ newline ∷ [])))

abbrev pub lines : Form → List Pair → List ℕ
lines f [] = []
lines f (p ∷ ps) = line f p ++ lines f ps

-- the bytes of the longest line of a good pair: a name of 63 bytes, and a delay of -1 or of seven digits
abbrev pub longest_line : Form → ℕ
longest_line f = length f.head + 65 + max (length f.never) (7 + length f.unit)

-- ---- what is read: a pair only from a line that has the form from its first byte to its last

-- go on with what was read, if anything was
abbrev pub ◌>>=◌ : {A B : Type 0} → Option A → (A → Option B) → Option B
◌>>=◌ None k = None
◌>>=◌ (Some a) k = k a

abbrev pub same : List ℕ → List ℕ → Bool
same = bytes_eq

-- what follows `front` in bytes that begin with it
abbrev pub after : List ℕ → List ℕ → Option (List ℕ)
after [] bs = Some bs
after (c ∷ cs) [] = None
after (c ∷ cs) (b ∷ bs) = cond (c == b) (after cs bs) None

-- the bytes of a kind with which bytes begin, and what follows them
abbrev pub run : (ℕ → Bool) → List ℕ → List ℕ
run is [] = []
run is (b ∷ bs) = cond (is b) (b ∷ run is bs) []

abbrev pub past : (ℕ → Bool) → List ℕ → List ℕ
past is [] = []
past is (b ∷ bs) = cond (is b) (past is bs) (b ∷ bs)

-- one digit or more, and no zero before another
abbrev pub canonical : List ℕ → Bool
canonical [] = false
canonical (c ∷ []) = true
canonical (c ∷ (d ∷ ds)) = not (c == 48)

-- the number that digits write behind those of n
abbrev pub number_on : ℕ → List ℕ → ℕ
number_on n [] = n
number_on n (c ∷ cs) = number_on (10 * n + (c - 48)) cs

-- digits and the unit
abbrev pub read_digits : Form → List ℕ → List ℕ → Option ℤ
read_digits f ds rest = cond (canonical ds && same rest f.unit) (Some (pos (number_on 0 ds))) None

abbrev pub read_delay : Form → List ℕ → Option ℤ
read_delay f bs = cond (same bs f.never) (Some (negsuc 0)) (read_digits f (run is_ascii_digit bs) (past is_ascii_digit bs))

abbrev pub if_good : Pair → Option Pair
if_good p = cond (good p) (Some p) None

-- a line without its newline
abbrev pub read_line : Form → List ℕ → Option Pair
read_line f bs = do
  rest ← after f.head bs
  text ← after (f.gap ∷ []) (past name_byte rest)
  delay ← read_delay f text
  if_good (pair (run name_byte rest) delay)

-- at the end no line goes on
abbrev pub ended : List ℕ → Option (List Pair)
ended [] = Some []
ended (b ∷ bs) = None

-- whole lines; `before` stands already in the line that goes on
abbrev pub read_on : Form → List ℕ → List ℕ → Option (List Pair)
read_on f before [] = ended before
read_on f before (c ∷ cs) = cond (c == newline) (do
  p ← read_line f before
  ps ← read_on f [] cs
  Some (p ∷ ps)) (read_on f (before ++ c ∷ []) cs)

-- the pairs that bytes mean, if they are nothing but lines of this form
abbrev pub read : Form → List ℕ → Option (List Pair)
read f bs = read_on f [] bs

-- ---- what a form has to keep apart

abbrev pub Lacks : ℕ → List ℕ → Type 0
Lacks c bs = list_all (λ b. not (b == c)) bs ≡ true

-- a newline stands only at the end of a line, a name ends at the gap, `never` and the unit begin with no digit; and all parts are short
pub record Sound (f : Form) : Type 0 where
  pub head_clear : Lacks newline f.head
  pub gap_clear : nat_eq f.gap newline ≡ false
  pub never_clear : Lacks newline f.never
  pub unit_clear : Lacks newline f.unit
  pub gap_apart : name_byte f.gap ≡ false
  pub never_apart : is_ascii_digit (slice_index_or f.never 0 48) ≡ false
  pub unit_apart : is_ascii_digit (slice_index f.unit 0) ≡ false
  pub short : length f.head + (length f.never + length f.unit) ≤ 100
