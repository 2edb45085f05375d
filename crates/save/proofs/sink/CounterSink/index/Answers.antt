use Rattle.std.proofs.Common.{refl}
use Rattle.save.proofs.Blind.{indexed_blind}
use Rattle.save.proofs.sink.CounterSink.index.Goals as goal

pub returns : goal.returns
returns c = indexed_blind _ _ _ _ 0 refl
