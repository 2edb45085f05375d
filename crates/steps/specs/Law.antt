-- Which steps are allowed: the limits, and for which reason a step is refused.
use Rattle.std.specs.Prelude.{◌≡◌, ℕ, ◌+◌, min, Bool, true, false, cond, ◌&&◌, List, [], ◌∷◌, length, pos, negsuc, Some, None, Ok, Err, Option, Result, ◌==◌, nat_le, nat_lt}
use Rattle.std.specs.List.{list_all}
use Rattle.refusal.specs.declared.Reason.{Reason}
use Rattle.refusal.specs.declared.Reason.TheVariants.{TooDeep, NoMemory, NothingThere, BadName, NotAllowed}
use Rattle.steps.specs.declared.parts.Holder.{Holder}
use Rattle.steps.specs.declared.parts.Holder.TheVariants.{List as OfList, Object as OfObject}
use Rattle.steps.specs.declared.parts.Share.{Share}
use Rattle.steps.specs.declared.parts.Share.TheVariants.{List as ShareList, Text as ShareText, Object as ShareObject}
use Rattle.steps.specs.Utf8.{lawful_name}
use Rattle.steps.specs.Steps.{Name, Content, none, logic, char, integer, float, text, Begun, put, open', share, Step, begin, close, Steps}
use Rattle.steps.specs.Outline.{Entry, Opened, values, opened, in_object, suits, share_family}

-- codepoints stop here
abbrev pub codepoint_end : ℕ
codepoint_end = 1114112

-- heads, classes and arities stop here
abbrev pub field_end : ℕ
field_end = 2147483648

-- integers run from -2,147,483,648 to one less than this
abbrev pub integer_end : ℕ
integer_end = 2147483648

-- an on-set is 32 bits, a float 64: they stop here
abbrev pub word_end : ℕ
word_end = 4294967296

abbrev pub float_end : ℕ
float_end = 18446744073709551616

-- the depth of the deepest value
abbrev pub deepest : ℕ
deepest = 32

-- the kinds of memory: value cells, codepoint cells and name bytes
pub data Kind : Type 0 where
  cells points names : Kind

-- so much of each
abbrev pub Memory : Type 0
Memory = Kind → ℕ

-- so many cells, codepoints and name bytes
abbrev pub so_much : ℕ → ℕ → ℕ → Memory
so_much c p n cells = c
so_much c p n points = p
so_much c p n names = n

-- of what is lent no more than this is used
abbrev pub limit : Memory
limit = so_much 16384 262144 65536

abbrev pub usable : Memory → Memory
usable m k = min (m k) (limit k)

-- ---- what may be begun

abbrev pub codepoints_ok : List ℕ → Bool
codepoints_ok = list_all (λ p. nat_lt p codepoint_end)

abbrev pub content_ok : Content → Bool
content_ok none = true
content_ok (logic b) = true
content_ok (char n) = nat_lt n codepoint_end
content_ok (integer (pos n)) = nat_lt n integer_end
content_ok (integer (negsuc n)) = nat_lt n integer_end
content_ok (float n) = nat_lt n float_end
content_ok (text k h ps) = nat_lt h field_end && codepoints_ok ps

abbrev pub holder_ok : Holder → Bool
holder_ok (OfList k h) = nat_lt h field_end
holder_ok (OfObject w s c t a) = nat_lt c field_end && (nat_lt t word_end && nat_lt a field_end)

abbrev pub share_ok : Share → Bool
share_ok (ShareList k h) = nat_lt h field_end
share_ok (ShareText k h) = nat_lt h field_end
share_ok (ShareObject w) = true

-- the value is allowed, and a share's target
abbrev pub begun_ok : List Entry → Begun → Bool
begun_ok xs (put v) = content_ok v
begun_ok xs (open' h) = holder_ok h
begun_ok xs (share s t) = share_ok s && suits xs t (share_family s)

-- a value in an object has a name, and no other value has one
abbrev pub name_ok : List Opened → Name → Bool
name_ok os n = cond (in_object os) (lawful_name n) (length n == 0)

-- ---- what it needs

abbrev pub codepoints_of : Begun → List ℕ
codepoints_of (put none) = []
codepoints_of (put (logic b)) = []
codepoints_of (put (char n)) = []
codepoints_of (put (integer z)) = []
codepoints_of (put (float n)) = []
codepoints_of (put (text k h ps)) = ps
codepoints_of (open' h) = []
codepoints_of (share s t) = []

-- a value needs one cell, its codepoints and its name
abbrev pub need : Name → Begun → Memory
need n b = so_much 1 (length (codepoints_of b)) (length n)

-- what the steps use
abbrev pub used : Steps → Memory
used [] k = 0
used (begin l b ∷ e) k = used e k + need l.name b k
used (close ∷ e) k = used e k

abbrev pub every_kind : (Kind → Bool) → Bool
every_kind f = f cells && (f points && f names)

-- so much more fits behind the steps
abbrev pub has_room : Memory → Steps → Memory → Bool
has_room m e n = every_kind (λ k. nat_le (used e k + n k) (usable m k))

-- ---- the law

abbrev pub unless : Bool → Reason → Option Reason → Option Reason
unless true why next = next
unless false why next = Some why

-- why a step is refused behind the steps that stand; none: it is accepted
abbrev pub refusal : Memory → Steps → Step → Option Reason
refusal m e (begin l b) =
    unless (name_ok (opened e) l.name) BadName
    (unless (begun_ok (values e) b) NotAllowed
    (unless (nat_lt (length (opened e)) deepest) TooDeep
    (unless (has_room m e (need l.name b)) NoMemory None)))
refusal m e close = unless (nat_lt 0 (length (opened e))) NothingThere None

-- steps that were each accepted in this memory
abbrev pub Lawful : Memory → Steps → Type 0
Lawful m [] = Unit {0}
Lawful m (s ∷ e) = Lawful m e × (refusal m e s ≡ None)

-- nothing is open
abbrev pub Closed : Steps → Type 0
Closed e = opened e ≡ []

-- ---- what calls answer

-- the reason of a refused call; none where it was accepted
abbrev pub refused : {X : Type 0} → Result X Reason → Option Reason
refused (Ok x) = None
refused (Err why) = Some why

-- a step was accepted by the law, with this answer, and stands; or refused by it, and the steps stand as before
abbrev pub Stepped : {X : Type 0} → Memory → Step → Steps → Result X Reason → X → Steps → Type 0
Stepped m s before (Ok x) answer after = (refusal m before s ≡ None) × (x ≡ answer) × (after ≡ s ∷ before)
Stepped m s before (Err why) answer after = (refusal m before s ≡ Some why) × (after ≡ before)

-- the newest step is gone; or refused, since no step stood
abbrev pub Unstepped : {X : Type 0} → Steps → Result X Reason → Steps → Type 0
Unstepped before (Ok x) after = (s : Step) × (before ≡ s ∷ after)
Unstepped before (Err why) after = (why ≡ NothingThere) × (before ≡ []) × (after ≡ [])
