use Rattle.load_file.proofs.Roots.{Rooting}
use Rattle.load_file.proofs.loader.Loader.roots.Given as goal

abbrev pub invariant-loop : goal.invariant-loop
invariant-loop l = Rooting l.initial.self l.initial.filler l.self l.filler l.depth.left l.count l.counter
