-- The steps that build a document.
use Rattle.std.specs.Prelude.{ℕ, Bool, List, ℤ}
use Rattle.steps.specs.declared.parts.TextKind.{TextKind}
use Rattle.steps.specs.declared.parts.Node.{Node}
use Rattle.steps.specs.declared.parts.Holder.{Holder}
use Rattle.steps.specs.declared.parts.Share.{Share}

abbrev pub Name : Type 0
Name = List ℕ

-- the new-line mark and the name of a value
pub record Tag : Type 0 where
  pub new_line : Bool
  pub name : Name

-- what a put holds; a float is its 64 bits, a text its head and codepoints
pub data Content : Type 0 where
  none : Content
  logic : Bool → Content
  char : ℕ → Content
  integer : ℤ → Content
  float : ℕ → Content
  text : TextKind → ℕ → List ℕ → Content

-- a value is put; or opened, to hold others; or shared with an earlier value, its target
pub data Begun : Type 0 where
  put : Content → Begun
  open' : Holder → Begun
  share : Share → Node → Begun

-- a step begins a value, or closes the innermost open one
pub data Step : Type 0 where
  begin : Tag → Begun → Step
  close : Step

-- the steps that stand, the newest first
abbrev pub Steps : Type 0
Steps = List Step
