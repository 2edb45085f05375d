use Rattle.std.proofs.Common.{◌<◌, length, arith, get_or-set_other, get_or-set_same}
use Rattle.load_file.specs.Levels.{blank}
use Rattle.load_file.proofs.levels.Levels.enter.Goals as goal

pub returns : goal.returns
returns c =
    let xs = c.args.self.now.records in
    let inside : c.args.at < length xs = omega (arith, c.args.self.now.many) in
    (get_or-set_same xs c.args.at c.args.level blank inside, λ i ne. get_or-set_other xs c.args.at i c.args.level blank ne)
