-- What a save answers, and what it leaves in the output.
use Rattle.std.specs.Prelude.{◌≡◌, ℕ, Bool, not, ◌&&◌, List, ◌++◌, length, drop, Some, None, Ok, Err, Option, Result, nat_le, nat_lt}
use Rattle.refusal.specs.declared.Reason.{Reason}
use Rattle.refusal.specs.declared.Reason.TheVariants.{StillOpen, DoesNotFit}
use Rattle.steps.specs.Steps.{Steps}
use Rattle.steps.specs.Outline.{opened}
use Rattle.steps.specs.Law.{unless}
use Rattle.redbin.specs.Layout.{largest_file}
use Rattle.redbin.specs.Canonical.{canonical}

-- nothing is open
abbrev pub all_closed : Steps → Bool
all_closed e = not (nat_lt 0 (length (opened e)))

-- why a save is refused: something is open; the file is longer than the output, or than a file may be
abbrev pub save_refusal : Steps → List ℕ → Option Reason
save_refusal e out =
    unless (all_closed e) StillOpen
    (unless (nat_le (length (canonical e)) (length out) && nat_le (length (canonical e)) largest_file) DoesNotFit None)

-- the output with the file at its start; behind it is what was there
abbrev pub with_file : Steps → List ℕ → List ℕ
with_file e out = canonical e ++ drop (length (canonical e)) out

-- a save of these steps is accepted, with the length of the file, which it wrote; or refused, and the output is as it was
abbrev pub Saved : Steps → List ℕ → Result ℕ Reason → List ℕ → Type 0
Saved e before (Ok n) «after» = (save_refusal e before ≡ None) × (n ≡ length (canonical e)) × («after» ≡ with_file e before)
Saved e before (Err why) «after» = (save_refusal e before ≡ Some why) × («after» ≡ before)
