-- Reading into a draft.
use Rattle.std.proofs.Common.{ℕ, List}
use Rattle.steps.specs.Steps.{Name}
use Rattle.steps.specs.Law.{Memory}
use Rattle.redbin.specs.Reading.{Setting, in_memory}

pub record InDraft : Type 0 where
  pub size : ℕ
  pub memory : Memory
  pub table : List Name
  pub payload : ℕ

abbrev pub in_draft : InDraft → Setting
in_draft c = record { size = c.size; uses = in_memory c.memory; table = c.table; payload = c.payload }
