-- What steps have begun: the values by number, what holds each, what is still open, and how paths lead to values.
use Rattle.std.specs.Prelude.{ℕ, Bool, true, false, cond, List, [], ◌∷◌, ◌++◌, length, Some, None, Option, ◌==◌}
use mathlib.Core.List.{tail}
use Rattle.steps.specs.declared.parts.Node.{Node}
use Rattle.steps.specs.declared.parts.Node.TheVariants.{Root, At}
use Rattle.steps.specs.declared.parts.Family.{Family}
use Rattle.steps.specs.declared.parts.Family.TheVariants.{Lists, Texts, Objects}
use Rattle.steps.specs.declared.parts.Holder.{Holder}
use Rattle.steps.specs.declared.parts.Holder.TheVariants.{List as OfList, Object as OfObject}
use Rattle.steps.specs.declared.parts.Share.{Share}
use Rattle.steps.specs.declared.parts.Share.TheVariants.{List as ShareList, Text as ShareText, Object as ShareObject}
use Rattle.steps.specs.Steps.{Name, Tag, none, logic, char, integer, float, text, Begun, put, open', share, begin, close, Steps}

-- a value that was begun, and what holds it
pub record Entry : Type 0 where
  pub label : Tag
  pub begun : Begun
  pub holder : Node

-- a value that is still open
pub record Opened : Type 0 where
  pub number : ℕ
  pub holder : Holder

-- what would hold the next value
abbrev pub innermost : List Opened → Node
innermost [] = Root
innermost (o ∷ os) = At o.number

abbrev pub opening : Begun → ℕ → List Opened → List Opened
opening (put v) n os = os
opening (open' h) n os = record { number = n; holder = h } ∷ os
opening (share s t) n os = os

-- the values begun, the newest first, so that a value's number is how many stand after it in the list; and the values still open, the innermost first
pub record Outline : Type 0 where
  pub values : List Entry
  pub opened : List Opened

abbrev pub outline : Steps → Outline
outline [] = record { values = []; opened = [] }
outline (begin l b ∷ e) =
    let o = outline e in
    record { values = record { label = l; begun = b; holder = innermost o.opened } ∷ o.values; opened = opening b (length o.values) o.opened }
outline (close ∷ e) =
    let o = outline e in
    record { values = o.values; opened = tail o.opened }

abbrev pub values : Steps → List Entry
values e = (outline e).values

abbrev pub opened : Steps → List Opened
opened e = (outline e).opened

-- an object, not a list
abbrev pub is_object : Holder → Bool
is_object (OfList k h) = false
is_object (OfObject w s c t a) = true

-- inside an object directly
abbrev pub in_object : List Opened → Bool
in_object [] = false
in_object (o ∷ os) = is_object o.holder

abbrev pub same_holder : Node → Node → Bool
same_holder Root Root = true
same_holder Root (At n) = false
same_holder (At m) Root = false
same_holder (At m) (At n) = m == n

-- the numbers of the values that a holder holds directly, the oldest first
unfoldable pub inner : List Entry → Node → List ℕ
inner [] h = []
inner (x ∷ xs) h = inner xs h ++ cond (same_holder x.holder h) (length xs ∷ []) []

-- their names
unfoldable pub inner_names : List Entry → Node → List Name
inner_names [] h = []
inner_names (x ∷ xs) h = inner_names xs h ++ cond (same_holder x.holder h) (x.label.name ∷ []) []

-- the value of a number, and what holds it
unfoldable pub entry_at : List Entry → ℕ → Option Entry
entry_at [] n = None
entry_at (x ∷ xs) n = cond (n == length xs) (Some x) (entry_at xs n)

-- its label, and its holder
abbrev pub label_in : Option Entry → Option Tag
label_in None = None
label_in (Some x) = Some x.label

abbrev pub holder_in : Option Entry → Option Node
holder_in None = None
holder_in (Some x) = Some x.holder

-- whether this holds a value, if there is one
abbrev pub held_by : Option Entry → Node → Bool
held_by None h = false
held_by (Some x) h = same_holder x.holder h

-- the value of a number
unfoldable pub begun_at : List Entry → ℕ → Option Begun
begun_at [] n = None
begun_at (x ∷ xs) n = cond (n == length xs) (Some x.begun) (begun_at xs n)

-- the family of an opened or put value; a shared one has none of its own
abbrev pub own_family : Begun → Option Family
own_family (put none) = None
own_family (put (logic b)) = None
own_family (put (char n)) = None
own_family (put (integer z)) = None
own_family (put (float n)) = None
own_family (put (text k h ps)) = Some Texts
own_family (open' (OfList k h)) = Some Lists
own_family (open' (OfObject w s c t a)) = Some Objects
own_family (share s t) = None

abbrev pub same_family : Family → Family → Bool
same_family Texts Texts = true
same_family Texts Lists = false
same_family Texts Objects = false
same_family Lists Texts = false
same_family Lists Lists = true
same_family Lists Objects = false
same_family Objects Texts = false
same_family Objects Lists = false
same_family Objects Objects = true

abbrev pub has_family : Option Family → Family → Bool
has_family None f = false
has_family (Some g) f = same_family g f

abbrev pub share_family : Share → Family
share_family (ShareList k h) = Lists
share_family (ShareText k h) = Texts
share_family (ShareObject w) = Objects

-- the value of this number may be the target of a share of this family
abbrev pub begun_suits : Option Begun → Family → Bool
begun_suits None f = false
begun_suits (Some b) f = has_family (own_family b) f

-- so may what stands here; the root is never a target
abbrev pub suits : List Entry → Node → Family → Bool
suits xs Root f = false
suits xs (At n) f = begun_suits (begun_at xs n) f

-- from a shared value to its target; any other value is its own
abbrev pub target_or : ℕ → Option Begun → Node
target_or n None = At n
target_or n (Some (put v)) = At n
target_or n (Some (open' h)) = At n
target_or n (Some (share s t)) = t

abbrev pub through : List Entry → ℕ → Node
through xs n = target_or n (begun_at xs n)

-- the value at a place in a list of numbers
abbrev pub at_place : List Entry → Option ℕ → Option Node
at_place xs None = None
at_place xs (Some n) = Some (through xs n)

unfoldable pub nth : List ℕ → ℕ → Option ℕ
nth [] i = None
nth (n ∷ ns) ℕ.zero = Some n
nth (n ∷ ns) (ℕ.suc i) = nth ns i

-- one offset onward
abbrev pub onward : List Entry → Option Node → ℕ → Option Node
onward xs None o = None
onward xs (Some h) o = at_place xs (nth (inner xs h) o)

unfoldable pub walk : List Entry → Option Node → List ℕ → Option Node
walk xs s [] = s
walk xs s (o ∷ os) = walk xs (onward xs s o) os

-- where a path of offsets leads from the root
abbrev pub follow : List Entry → List ℕ → Option Node
follow xs p = walk xs (Some Root) p

abbrev pub way : (ℕ → List ℕ) → Node → List ℕ
way path Root = []
way path (At n) = path n

-- the path of inner places from the root to a value, never through a shared one
unfoldable pub path_of : List Entry → ℕ → List ℕ
path_of [] n = []
path_of (x ∷ xs) n =
    let here = way (path_of xs) x.holder ++ length (inner xs x.holder) ∷ [] in
    let earlier = path_of xs n in
    cond (n == length xs) here earlier

abbrev pub path_to : List Entry → Node → List ℕ
path_to xs t = way (path_of xs) t
