use Rattle.gillsieve.proofs.Promised.{promised}
use Rattle.gillsieve.proofs.promise.histories_keep_promise.Goals as goal

pub returns : goal.returns
returns g c = promised _ _
