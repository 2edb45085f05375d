use Rattle.redbin.proofs.Roomy.{accepts_what_fits}
use Rattle.redbin.proofs.load_accepts_what_fits.Goals as goal

pub returns : goal.returns
returns c = accepts_what_fits
