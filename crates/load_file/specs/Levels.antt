-- The records of the levels that are open, and the names of the values that are left at a level.
use Rattle.std.specs.Prelude.{◌≡◌, ℕ, ◌+◌, ◌≤◌, Bool, true, false, List, [], ◌∷◌, map, replicate, Some, None, Option, ◌≢◌, slice_index_or}
use Rattle.steps.specs.Steps.{Name}
use Rattle.redbin.specs.Bytes.{number}
use Rattle.redbin.specs.Reading.{named_by}
use Rattle.load_file.specs.declared.levels.LevelRecord.{LevelRecord}
use Rattle.load_file.specs.declared.levels.LevelRecord.TheVariants.{Unnamed, Named}
use Rattle.load_file.specs.declared.levels.Levels.{Levels}

abbrev pub blank : LevelRecord
blank = Unnamed 0

-- the record of a level
abbrev pub record_at : List LevelRecord → ℕ → LevelRecord
record_at records at = slice_index_or records at blank

-- one record is this now, and the others are as they were
abbrev pub Changed : List LevelRecord → ℕ → LevelRecord → List LevelRecord → Type 0
Changed before at r after = (record_at after at ≡ r) × ((i : ℕ) → (i ≢ at) → record_at after i ≡ record_at before i)

-- the names of the values that are left
abbrev pub names_left : List Name → LevelRecord → List Name
names_left table (Unnamed n) = replicate n []
names_left table (Named is) = named_by table (map number is.now)

-- the values of the level have no names
abbrev pub is_unnamed : LevelRecord → Bool
is_unnamed (Unnamed n) = true
is_unnamed (Named is) = false

-- one value fewer is left
abbrev pub Fewer : LevelRecord → LevelRecord → Type 0
Fewer (Unnamed n) (Unnamed m) = n ≡ m + 1
Fewer (Unnamed n) (Named js) = ⊥
Fewer (Named is) (Unnamed m) = ⊥
Fewer (Named is) (Named js) = (i : List ℕ) × (is.now ≡ i ∷ js.now)

-- the name of the next value of a level, which has one fewer then; or none is left
abbrev pub Next : List Name → List LevelRecord → ℕ → Option Name → List LevelRecord → Type 0
Next table before at None after = (names_left table (record_at before at) ≡ []) × (after ≡ before)
Next table before at (Some n) after =
    (names_left table (record_at before at) ≡ n ∷ names_left table (record_at after at)) × ((i : ℕ) → (i ≢ at) → record_at after i ≡ record_at before i)
    × Fewer (record_at before at) (record_at after at)

-- the levels from this number on are as they were
abbrev pub Untouched : ℕ → Levels → Levels → Type 0
Untouched d v w = (i : ℕ) → d ≤ i → record_at w.records i ≡ record_at v.records i
