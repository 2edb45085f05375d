-- Tuning documents: which values offend, and the delays of a document.
use Rattle.std.specs.Prelude.{ℕ, ◌-◌, Bool, true, false, cond, not, ◌||◌, List, [], ◌∷◌, ◌++◌, length, drop, ℤ, Some, None, Option}
use Rattle.steps.specs.declared.parts.Node.{Node}
use Rattle.steps.specs.declared.parts.Node.TheVariants.{Root, At}
use Rattle.steps.specs.Steps.{Name, none, logic, char, integer, float, text, Begun, put, open', share}
use Rattle.steps.specs.Outline.{Entry, entry_at}
use Rattle.steps.specs.Build.{begun_object}
use Rattle.listing.specs.Pairs.{Pair, pair, good}
use Rattle.listing.specs.Forms.{same}

-- ---- the values of a document are a list, the newest first

-- what a put of an integer holds
abbrev pub integer_in : Begun → Option ℤ
integer_in (put none) = None
integer_in (put (logic b)) = None
integer_in (put (char n)) = None
integer_in (put (integer z)) = Some z
integer_in (put (float n)) = None
integer_in (put (text k h ps)) = None
integer_in (open' h) = None
integer_in (share s t) = None

-- the pair of an integer with this name
abbrev pub paired : Name → Option ℤ → Option Pair
paired n None = None
paired n (Some z) = Some (pair n z)

-- the delay that a value is, if it is an integer inside another value
abbrev pub delay_in : Node → Name → Begun → Option Pair
delay_in Root n b = None
delay_in (At h) n b = paired n (integer_in b)

abbrev pub delay_of : Entry → Option Pair
delay_of x = delay_in x.holder x.label.name x.begun

abbrev pub one_or_none : Option Pair → List Pair
one_or_none None = []
one_or_none (Some p) = p ∷ []

-- the delays of a document, the oldest first
unfoldable pub delays : List Entry → List Pair
delays [] = []
delays (x ∷ xs) = delays xs ++ one_or_none (delay_of x)

-- a name stands among these pairs
unfoldable pub listed : Name → List Pair → Bool
listed n [] = false
listed n (p ∷ ps) = same p.name n || listed n ps

-- an inner value offends unless it is a good pair whose name does not stand among those before it
abbrev pub bad_pair : List Pair → Option Pair → Bool
bad_pair before None = true
bad_pair before (Some p) = not (good p) || listed p.name before

-- a value offends behind earlier ones: a root value unless it is an opened object, an inner value unless it is a good pair
abbrev pub offends_in : Node → List Entry → Entry → Bool
offends_in Root xs x = not (begun_object x.begun)
offends_in (At h) xs x = bad_pair (delays xs) (delay_of x)

abbrev pub offends : List Entry → Entry → Bool
offends xs x = offends_in x.holder xs x

abbrev pub or_else : Option ℕ → Option ℕ → Option ℕ
or_else None o = o
or_else (Some n) o = Some n

-- the number of the lowest value that offends; none: a tuning document
unfoldable pub offender : List Entry → Option ℕ
offender [] = None
offender (x ∷ xs) = or_else (offender xs) (cond (offends xs x) (Some (length xs)) None)

-- the first so many values
abbrev pub oldest : ℕ → List Entry → List Entry
oldest k xs = drop (length xs - k) xs

-- the delay that the value of a number is
abbrev pub delay_if : Option Entry → Option Pair
delay_if None = None
delay_if (Some x) = delay_of x

abbrev pub delay_at : List Entry → ℕ → Option Pair
delay_at xs n = delay_if (entry_at xs n)

-- whether it offends, behind those before it
abbrev pub offends_if : List Entry → Option Entry → Bool
offends_if before None = false
offends_if before (Some x) = offends before x

abbrev pub offends_at : List Entry → ℕ → Bool
offends_at xs n = offends_if (oldest n xs) (entry_at xs n)
