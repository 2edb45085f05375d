use Rattle.redbin.proofs.Headings.{headers_read_back}
use Rattle.redbin.proofs.headers_read_back.Goals as goal

pub returns : goal.returns
returns c = headers_read_back
