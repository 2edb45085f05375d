use Rattle.std.proofs.Common.{◌≡◌, ◌/◌, length, map, arith}
use Rattle.redbin.specs.Bytes.{number}
use Rattle.load.specs.Runs.{entries}
use Rattle.load.proofs.Chunks.{numbers_in}
use Rattle.load.proofs.reader.Reader.words.Goals as goal

pub returns-clause-did : goal.returns-clause-did
returns-clause-did c =
    let b = c.in_ok-bytes.bytes.now in
    let n : length b / 4 ≡ c.args.n = omega (arith, c.in_ok-bytes.ensures.long) in
    let e : map number c.as_chunks.result.0.now ≡ entries 4 c.args.n b = rw (c.as_chunks.ensures.front, n) (numbers_in 4 c.args.n b) in
    rw e c.in_ok-bytes.ensures.did
