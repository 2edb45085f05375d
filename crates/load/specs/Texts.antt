-- Texts of a file, and codepoints written into free memory.
use Rattle.std.specs.Prelude.{◌≡◌, ℕ, List, length, take}
use Rattle.steps.specs.Steps.{Content, text}
use Rattle.load.specs.declared.encoded.Encoded.{Encoded}
use Rattle.redbin.specs.Layout.{width}
use Rattle.load.specs.Runs.{entries}
use Rattle.document.specs.declared.store.Store.{Store}
use Rattle.document.specs.Standing.{standing, memory_lent, free_points}

-- these codepoints were written at the start of the memory that a store does not use
pub record Decoded (s : Store) (ps : List ℕ) (t : Store) : Type 0 where
  pub memory : memory_lent t ≡ memory_lent s
  pub told : standing t ≡ standing s
  pub written : take (length ps) (free_points t) ≡ ps

-- the text that it encodes
abbrev pub decoded : Encoded → Content
decoded t = text t.kind t.head (entries (width t.unit) t.count t.bytes.now)
