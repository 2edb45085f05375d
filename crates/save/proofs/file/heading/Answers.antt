use Rattle.save.proofs.Filed.{headed}
use Rattle.save.proofs.file.heading.Goals as goal

pub returns : goal.returns
returns g c = headed g.S.Sink.output _ _ _ _ c.args.flags c.args.roots c.args.payload c.bytes.ensures c.bytes-2.ensures c.words.ensures
