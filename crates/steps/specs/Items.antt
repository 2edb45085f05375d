-- What a pile holds, of the memory that it is lent.
use Rattle.std.specs.Prelude.{◌≡◌, ℕ, min, List, length, take, drop}
use Rattle.steps.specs.declared.pile.Pile.{Pile}

-- the elements in use
abbrev pub items : {T : Type 0} → Pile T → List T
items p = take p.used p.memory.now

-- the elements that are not in use
abbrev pub free : {T : Type 0} → Pile T → List T
free p = drop p.used p.memory.now

-- how many elements the memory has that it is lent
abbrev pub lent : {T : Type 0} → Pile T → ℕ
lent p = length p.memory.now

-- how many it may use
abbrev pub room : {T : Type 0} → Pile T → ℕ
room p = min (lent p) p.bound

-- as much memory is lent, and may be used
abbrev pub Sized : {T : Type 0} → Pile T → Pile T → Type 0
Sized p q = (lent q ≡ lent p) × (q.bound ≡ p.bound)
