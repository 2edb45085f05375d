-- That a function read what a definition says.
use Rattle.std.specs.Prelude.{◌≡◌, ℕ, List, length, drop, Ok, Err, Result}
use Rattle.refusal.specs.declared.Part.{Part}
use Rattle.refusal.specs.declared.Refusal.{Refusal}
use Rattle.steps.specs.Steps.{Steps}
use Rattle.redbin.specs.Reading.{Reader as State, Reads, got, refused, enough, skip, Setting, start_of_file, ◌>>◌}
use Rattle.load.specs.declared.reader.Reader.{Reader}

-- the bytes not yet read
abbrev pub rest_of : Reader → List ℕ
rest_of r = drop r.place r.file.now

abbrev pub size_of : Reader → ℕ
size_of r = length r.file.now

abbrev pub state : List ℕ → Steps → State
state bytes e = record { rest = bytes; steps = e }

-- a reading that leaves the steps as they are came from these bytes to this answer, and to those bytes if it was not refused
abbrev pub Ran : {A : Type 0} → Reads A → List ℕ → Result A Refusal → List ℕ → Type 0
Ran m before (Ok a) after = (e : Steps) → m (state before e) ≡ got a (state after e)
Ran m before (Err x) after = (e : Steps) → m (state before e) ≡ refused x

-- a call took a reader to another and gave the answer of a reading
pub record Did {A : Type 0} (r : Reader) (m : ℕ → Reads A) (answer : Result A Refusal) (s : Reader) : Type 0 where
  pub file : s.file ≡ r.file
  pub ran : Ran (m (size_of r)) (rest_of r) answer (rest_of s)

-- an answer as a definition has it
abbrev pub as_read : {A B : Type 0} → (B → A) → Result B Refusal → Result A Refusal
as_read f (Ok b) = Ok (f b)
as_read f (Err x) = Err x

-- so many bytes, as they are; they have to fit
abbrev pub piece : ℕ → Part → ℕ → Reads (List ℕ)
piece size part n = enough size part n >> skip n

-- a call took a reader, wherever it stood, behind the first bytes of its file, or they were refused
pub record Started (r : Reader) (answer : Result (Unit {0}) Refusal) (s : Reader) : Type 0 where
  pub file : s.file ≡ r.file
  pub ran : Ran (start_of_file r.file.now) r.file.now answer (rest_of s)

-- a call read as the definition says for records of a file of this size
pub record DidIn {A : Type 0} (r : Reader) (m : Setting → Reads A) (answer : Result A Refusal) (s : Reader) : Type 0 where
  pub file : s.file ≡ r.file
  pub ran : (c : Setting) → c.size ≡ size_of r → Ran (m c) (rest_of r) answer (rest_of s)

-- what comes of it does not depend on the bytes, and it reads none
abbrev pub Answers : {A : Type 0} → (Setting → Reads A) → Result A Refusal → Type 0
Answers m answer = (c : Setting) (bytes : List ℕ) → Ran (m c) bytes answer bytes
