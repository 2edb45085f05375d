use Rattle.std.proofs.lemmas.List.{drop-set-add}
use Rattle.steps.proofs.pile.Pile.write_free.Goals as goal

pub returns-clause-free : goal.returns-clause-free
returns-clause-free g c =
    let p = c.args.self.now in
    drop-set-add p.used p.memory.now c.args.at c.args.x
