use Rattle.std.proofs.Common.{◌≡◌, take}
use Rattle.steps.specs.Outline.{values}
use Rattle.document.specs.Standing.{standing}
use Rattle.save.specs.Names.{in_order, listed}
use Rattle.save.proofs.Listed.{names_from}
use Rattle.save.proofs.symbols.is_listed.Given as goal

-- the name is among the first if it is among those that are left to look at
abbrev pub invariant-loop-object : goal.invariant-loop-object
invariant-loop-object l = listed l.name (take l.end (in_order (values (standing l.store)))) ≡ listed l.name (take l.left (names_from (values (standing l.store)) l.object))
