use Rattle.gillsieve.proofs.Calls.{did_load}
use Rattle.gillsieve.proofs.draft.Draft.load.Goals as goal

pub returns : goal.returns
returns c = did_load _ _ _ _ c.load.ensures
