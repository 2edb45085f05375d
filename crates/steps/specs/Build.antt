-- The cells, codepoints and name bytes that steps build, and the steps that these tell of.
use Rattle.std.specs.Prelude.{ℕ, zero, suc, ◌+◌, ◌-◌, ◌^◌, ◌<◌, Bool, false, Option, Some, None, List, [], ◌∷◌, ◌++◌, length, take, drop, replicate, slice_index_or}
use Rattle.steps.specs.declared.parts.Node.{Node}
use Rattle.steps.specs.declared.parts.Node.TheVariants.{Root, At}
use Rattle.steps.specs.declared.parts.Family.{Family}
use Rattle.steps.specs.declared.parts.Span.{Span}
use Rattle.steps.specs.declared.parts.Sort.{Sort}
use Rattle.steps.specs.declared.parts.Content.TheVariants.{Nothing, Logic, Char, Integer, Float, Text}
use Rattle.steps.specs.declared.parts.Sort.TheVariants.{Put, Open, Share}
use Rattle.steps.specs.declared.parts.Cell.{Cell}
use Rattle.steps.specs.Adjust.{adjust}
use Rattle.steps.specs.Steps.{Tag, none, logic, char, integer, float, text, Begun, put, open', share, Step, begin, close, Steps}
use Rattle.steps.specs.Outline.{Entry, has_family, own_family, is_object}
use Rattle.steps.specs.Law.{codepoints_of}

-- ---- cells

-- one more, or one less, inner value
abbrev pub more_in : Sort → Sort
more_in (Put v) = Put v
more_in (Open h n) = Open h (n + 1)
more_in (Share s t) = Share s t

abbrev pub less_in : Sort → Sort
less_in (Put v) = Put v
less_in (Open h n) = Open h (n - 1)
less_in (Share s t) = Share s t

abbrev pub count_in : Sort → ℕ
count_in (Put v) = 0
count_in (Open h n) = n
count_in (Share s t) = 0

abbrev pub more : Cell → Cell
more c = record { new_line = c.new_line; name = c.name; holder = c.holder; closes = c.closes; sort = more_in c.sort }

abbrev pub less : Cell → Cell
less c = record { new_line = c.new_line; name = c.name; holder = c.holder; closes = c.closes; sort = less_in c.sort }

-- one more, or one less, close after the value
abbrev pub shut : Cell → Cell
shut c = record { new_line = c.new_line; name = c.name; holder = c.holder; closes = c.closes + 1; sort = c.sort }

abbrev pub unshut : Cell → Cell
unshut c = record { new_line = c.new_line; name = c.name; holder = c.holder; closes = c.closes - 1; sort = c.sort }

abbrev pub blank : Cell
blank = record { new_line = false; name = record { start = 0; len = 0 }; holder = Root; closes = 0; sort = (Put Nothing) }

abbrev pub cell_at : List Cell → ℕ → Cell
cell_at cs i = slice_index_or cs i blank

-- the cell of a value changed; the root has none
abbrev pub adjust_at : Node → (Cell → Cell) → List Cell → List Cell
adjust_at Root f cs = cs
adjust_at (At i) f cs = adjust cs i f

-- ---- what the steps build

-- the memory in use, the innermost open value, and how many are open
pub record Built : Type 0 where
  pub cells : List Cell
  pub points : List ℕ
  pub names : List ℕ
  pub innermost : Node
  pub depth : ℕ

-- the sort of a value that begins where `from` codepoints are in use
abbrev pub sort_of : ℕ → Begun → Sort
sort_of «from» (put none) = Put Nothing
sort_of «from» (put (logic b)) = Put (Logic b)
sort_of «from» (put (char n)) = Put (Char n)
sort_of «from» (put (integer z)) = Put (Integer z)
sort_of «from» (put (float n)) = Put (Float n)
sort_of «from» (put (text k h ps)) = Put (Text k h (record { start = «from»; len = length ps }))
sort_of «from» (open' h) = Open h 0
sort_of «from» (share s t) = Share s t

-- the innermost open value once the value of this sort and number has begun
abbrev pub inside : Sort → ℕ → Node → Node
inside (Put v) n o = o
inside (Open h c) n o = At n
inside (Share s t) n o = o

-- how many are open then, and how many were before
abbrev pub deeper : Sort → ℕ → ℕ
deeper (Put v) d = d
deeper (Open h c) d = d + 1
deeper (Share s t) d = d

abbrev pub shallower : Sort → ℕ → ℕ
shallower (Put v) d = d
shallower (Open h c) d = d - 1
shallower (Share s t) d = d

abbrev pub holder_at : List Cell → Node → Node
holder_at cs Root = Root
holder_at cs (At i) = (cell_at cs i).holder

abbrev pub new_cell : Tag → Begun → Built → Cell
new_cell l b m =
    record {
      new_line = l.new_line;
      name = record { start = length m.names; len = length l.name };
      holder = m.innermost;
      closes = 0;
      sort = sort_of (length m.points) b;
    }

abbrev pub apply : Step → Built → Built
apply (begin l b) m =
    record {
      cells = adjust_at m.innermost more m.cells ++ (new_cell l b m ∷ []);
      points = m.points ++ codepoints_of b;
      names = m.names ++ l.name;
      innermost = inside (sort_of (length m.points) b) (length m.cells) m.innermost;
      depth = deeper (sort_of (length m.points) b) m.depth;
    }
apply close m =
    record {
      cells = adjust m.cells (length m.cells - 1) shut;
      points = m.points;
      names = m.names;
      innermost = holder_at m.cells m.innermost;
      depth = m.depth - 1;
    }

abbrev pub empty : Built
empty = record { cells = []; points = []; names = []; innermost = Root; depth = 0 }

abbrev pub build : Steps → Built
build [] = empty
build (s ∷ earlier) = apply s (build earlier)

-- ---- the steps that they tell of, the newest first

abbrev pub part : Span → List ℕ → List ℕ
part s xs = take s.len (drop s.start xs)

abbrev pub begun_of : List ℕ → Sort → Begun
begun_of ps (Put Nothing) = put none
begun_of ps (Put (Logic b)) = put (logic b)
begun_of ps (Put (Char n)) = put (char n)
begun_of ps (Put (Integer z)) = put (integer z)
begun_of ps (Put (Float n)) = put (float n)
begun_of ps (Put (Text k h s)) = put (text k h (part s ps))
begun_of ps (Open h n) = open' h
begun_of ps (Share s t) = share s t

-- the value of a cell, and what holds it
abbrev pub entry_of : List ℕ → List ℕ → Cell → Entry
entry_of ps ns c = record { label = record { new_line = c.new_line; name = part c.name ns }; begun = begun_of ps c.sort; holder = c.holder }

abbrev pub telling : ℕ → Entry → Steps
telling closes x = replicate closes close ++ (begin x.label x.begun ∷ [])

abbrev pub told : List ℕ → List ℕ → Cell → Steps
told ps ns c = telling c.closes (entry_of ps ns c)

abbrev pub tell : List ℕ → List ℕ → List Cell → Steps
tell ps ns [] = []
tell ps ns (c ∷ cs) = tell ps ns cs ++ told ps ns c

abbrev pub steps : Built → Steps
steps m = tell m.points m.names m.cells

-- ---- what the functions on cells ask and give

-- the number of a value, if it is one, is below K
abbrev pub Under : ℕ → Node → Type 0
Under K Root = Unit {0}
Under K (At i) = i < K

-- a fact about the cell of a value; the root has none
abbrev pub AtCell : (Cell → Type 0) → List Cell → Node → Type 0
AtCell P cs Root = Unit {0}
AtCell P cs (At i) = P (cell_at cs i)

-- the count of the value there can rise
abbrev pub Raisable : List Cell → Node → Type 0
Raisable = AtCell (λ c. count_in c.sort + 1 < 2 ^ 32)

abbrev pub last : List Cell → Cell
last cs = cell_at cs (length cs - 1)

abbrev pub holders : List Cell → List Node
holders [] = []
holders (c ∷ cs) = c.holder ∷ holders cs

-- so many holders up
abbrev pub up : List Node → Node → Node
up os Root = Root
up os (At i) = slice_index_or os i Root

abbrev pub ups : List Node → ℕ → Node → Node
ups os zero o = o
ups os (suc n) o = up os (ups os n o)

-- how many codepoints stand before those of the last value, of `all`
abbrev pub cut_at : Sort → ℕ → ℕ
cut_at (Put Nothing) all = all
cut_at (Put (Logic b)) all = all
cut_at (Put (Char n)) all = all
cut_at (Put (Integer z)) all = all
cut_at (Put (Float n)) all = all
cut_at (Put (Text k h s)) all = s.start
cut_at (Open h n) all = all
cut_at (Share s t) all = all

-- whether a value of this sort may be the target of a share of this family
abbrev pub sort_suits : Sort → Family → Bool
sort_suits s f = has_family (own_family (begun_of [] s)) f

-- whether a value of this sort is an opened object
abbrev pub begun_object : Begun → Bool
begun_object (put v) = false
begun_object (open' h) = is_object h
begun_object (share s t) = false

-- whether it is a value that opens an object
abbrev pub object_in : Option Entry → Bool
object_in None = false
object_in (Some x) = begun_object x.begun

abbrev pub sort_is_object : Sort → Bool
sort_is_object s = begun_object (begun_of [] s)

-- the part of the codepoints that a value of this sort has, and the value that it is with these
abbrev pub span_of : Sort → Span
span_of (Put Nothing) = record { start = 0; len = 0 }
span_of (Put (Logic b)) = record { start = 0; len = 0 }
span_of (Put (Char n)) = record { start = 0; len = 0 }
span_of (Put (Integer z)) = record { start = 0; len = 0 }
span_of (Put (Float n)) = record { start = 0; len = 0 }
span_of (Put (Text k h s)) = s
span_of (Open h n) = record { start = 0; len = 0 }
span_of (Share s t) = record { start = 0; len = 0 }

abbrev pub begun_with : Sort → List ℕ → Begun
begun_with (Put Nothing) ps = put none
begun_with (Put (Logic b)) ps = put (logic b)
begun_with (Put (Char n)) ps = put (char n)
begun_with (Put (Integer z)) ps = put (integer z)
begun_with (Put (Float n)) ps = put (float n)
begun_with (Put (Text k h s)) ps = put (text k h ps)
begun_with (Open h n) ps = open' h
begun_with (Share s t) ps = share s t
