-- The numbers of the reasons for which calls are refused.
use Rattle.std.specs.Prelude.{ℕ, Some, None, Ok, Err, Option, Result}
use Rattle.refusal.specs.declared.Reason.{Reason}
use Rattle.refusal.specs.declared.Reason.TheVariants.{NotRedbin, Version, Flags, Short, Large, LeftOver, BadSymbol, BadType, BadBits, BadContent, BadPath, BadIndex, TooDeep, NoMemory, StepsStand, StillOpen, NothingThere, BadName, NotAllowed, DoesNotFit, NotTuning}

abbrev pub number : Reason → ℕ
number NotRedbin = 1
number Version = 2
number Flags = 3
number Short = 4
number Large = 5
number LeftOver = 6
number BadSymbol = 7
number BadType = 8
number BadBits = 9
number BadContent = 10
number BadPath = 11
number BadIndex = 12
number TooDeep = 13
number NoMemory = 14
number StepsStand = 15
number StillOpen = 16
number NothingThere = 17
number BadName = 18
number NotAllowed = 19
number DoesNotFit = 20
number NotTuning = 21

-- the number of the refusal; none where the call was accepted
abbrev pub refused_with : {X : Type 0} → Result X Reason → Option ℕ
refused_with (Ok x) = None
refused_with (Err e) = Some (number e)
