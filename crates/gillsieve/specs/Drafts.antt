-- What a draft holds.
use Rattle.steps.specs.Steps.{Steps}
use Rattle.steps.specs.Law.{Memory}
use Rattle.document.specs.Standing.{standing, memory_lent}
use Rattle.gillsieve.specs.declared.draft.Draft.{Draft}

-- the steps that stand, the newest first
abbrev pub steps_of : Draft → Steps
steps_of d = standing d.store

-- the memory that its caller lends
abbrev pub memory_of : Draft → Memory
memory_of d = memory_lent d.store
