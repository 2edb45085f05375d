use Rattle.delays.proofs.Names.{named_some, named_none}
use Rattle.delays.proofs.is_named.Goals as goal

pub returns-in-Some : goal.returns-in-Some
returns-in-Some c = named_some c.args.name.now _ _ c.eq.result c.in-Some.ensures c.eq.ensures

pub returns-in-None : goal.returns-in-None
returns-in-None c = named_none c.args.name.now _ c.in-None.ensures
