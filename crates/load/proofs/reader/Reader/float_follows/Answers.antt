use Rattle.std.proofs.Common.{sym}
use Rattle.load.proofs.Headings.{other_short, other_long}
use Rattle.load.proofs.reader.Reader.float_follows.Goals as goal

pub returns-in-len4-up : goal.returns-in-len4-up
returns-in-len4-up c = rw (← c.rest.ensures) (sym (other_long c.rest.result.now c.in-len4-up.len_at_least))

pub returns-in_default : goal.returns-in_default
returns-in_default c = rw (← c.rest.ensures) (sym (other_short c.rest.result.now c.in_default.len_below))
