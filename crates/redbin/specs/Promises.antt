-- What holds of the canonical form and of reading.
use Rattle.std.specs.Prelude.{◌≡◌, ℕ, ◌<◌, ◌≤◌, ◌/◌, ◌%◌, Bool, ◌⊎◌, List, [], ◌++◌, length, Some, Ok, Err}
use Rattle.refusal.specs.declared.Reason.TheVariants.{NoMemory}
use Rattle.refusal.specs.declared.Part.TheVariants.{Record}
use Rattle.steps.specs.Steps.{Steps}
use Rattle.steps.specs.Outline.{values, through, follow, path_of}
use Rattle.steps.specs.Law.{Kind, Memory, used, usable, Lawful, Closed}
use Rattle.redbin.specs.declared.form.Form.{Form}
use Rattle.redbin.specs.Bytes.{bit}
use Rattle.redbin.specs.Layout.{largest_file, header}
use Rattle.redbin.specs.Canonical.{canonical}
use Rattle.redbin.specs.Reading.{announced, is_nonzero, because, unlimited, read, load, file_steps}

-- a memory has room for these steps
abbrev pub Fits : Memory → Steps → Type 0
Fits m e = (k : Kind) → used e k ≤ usable m k

-- steps that can be written: each was accepted in some memory, nothing is open, and their file is not too long
abbrev pub Writable : Steps → Type 0
Writable e = ((m : Memory) × Lawful m e) × Closed e × (length (canonical e) ≤ largest_file)

-- the header that is written for a form, with a new-line mark or without, announces that form and that mark
abbrev pub HeadersReadBack : Type 0
HeadersReadBack =
    (f : Form) (new_line : Bool) → (announced (header f new_line % bit 8) (header f new_line / bit 8 % bit 23) ≡ Ok f) × (is_nonzero (header f new_line / bit 31) ≡ new_line)

-- the canonical form is read back as the steps that it was written for, in every memory with room for them
abbrev pub CanonicalReadsBack : Type 0
CanonicalReadsBack = (m : Memory) (e : Steps) → Writable e → Fits m e → load m [] (canonical e) ≡ Ok e

-- two lists of steps with the same canonical form are the same, in whatever memory each was built
abbrev pub CanonicalTellsApart : Type 0
CanonicalTellsApart = (e f : Steps) → Writable e → Writable f → canonical e ≡ canonical f → e ≡ f

-- what load accepts is lawful in its memory, leaves nothing open and fits the memory
abbrev pub LoadIsLawful : Type 0
LoadIsLawful = (m : Memory) (before : Steps) (file : List ℕ) (e : Steps) → load m before file ≡ Ok e → Lawful m e × Closed e × Fits m e

-- memory decides nothing but whether each value has room: load answers what reading without a limit does, or is refused 14
abbrev pub MemoryDecidesRoomAlone : Type 0
MemoryDecidesRoomAlone =
    (m : Memory) (file : List ℕ) → (load m [] file ≡ read unlimited file) ⊎ ((place : ℕ) × (load m [] file ≡ Err (because NoMemory Record place)))

-- and a file that reading without a limit accepts is accepted wherever its steps fit
abbrev pub LoadAcceptsWhatFits : Type 0
LoadAcceptsWhatFits = (m : Memory) (file : List ℕ) (e : Steps) → read unlimited file ≡ Ok e → Fits m e → load m [] file ≡ Ok e

-- load accepts only where no step stands, and then gives the steps that the file means, whatever the memory
abbrev pub LoadGivesFileSteps : Type 0
LoadGivesFileSteps = (m : Memory) (before : Steps) (file : List ℕ) (e : Steps) → load m before file ≡ Ok e → (before ≡ []) × (e ≡ file_steps file)

-- the canonical path of a value leads to that value, and if it is a share to its target; later steps change neither the path nor where it leads
abbrev pub PathsLead : Type 0
PathsLead =
    (later e : Steps) (n : ℕ) → n < length (values e)
    → (follow (values (later ++ e)) (path_of (values e) n) ≡ Some (through (values e) n)) × (path_of (values (later ++ e)) n ≡ path_of (values e) n)
