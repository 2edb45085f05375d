-- Lawful names.
use Rattle.std.specs.Prelude.{◌≡◌, true, List, [], ◌∷◌}
use Rattle.std.specs.Coded.{×_prop, Unit-prop}
use Rattle.std.specs.List.{AllByRecursion}
use Rattle.std.proofs.Math.Bool.{Bool-set}
use Rattle.steps.specs.Utf8.{lawful_name}
use Rattle.steps.specs.Steps.{Name}

-- every name is lawful
abbrev pub AllLawful : List Name → Type 0
AllLawful ns = AllByRecursion (λ n. lawful_name n ≡ true) ns

pub all_lawful_prop : (ns : List Name) → IsProp (AllLawful ns)
all_lawful_prop [] = Unit-prop
all_lawful_prop (n ∷ ns) = ×_prop (Bool-set (lawful_name n) true) (all_lawful_prop ns)
