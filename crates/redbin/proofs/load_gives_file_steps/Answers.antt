use Rattle.redbin.proofs.Meant.{gives_file_steps}
use Rattle.redbin.proofs.load_gives_file_steps.Goals as goal

pub returns : goal.returns
returns c = gives_file_steps
