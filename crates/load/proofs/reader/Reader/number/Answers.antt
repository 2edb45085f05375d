use Rattle.std.proofs.Common.{◌∙◌, arith}
use Rattle.std.proofs.lemmas.Result.{err_from_is_err_and}
use Rattle.load.proofs.Fields.{le_four, number_short, number_large, number_got}
use Rattle.load.proofs.reader.Reader.number.Goals as goal

pub returns-in_err-array : goal.returns-in_err-array
returns-in_err-array c =
    let p = err_from_is_err_and c.from_residual.result c.from_residual.ensures.1 in
    rw (p.1, p.2) (number_short c.args.self.now _ _ 4 _ _ _ c.in_err-array.ensures.did)

pub returns-then-n-end : goal.returns-then-n-end
returns-then-n-end c =
    let a = c.in_ok-array.ensures in
    let n = c.from_le_bytes-n.ensures ∙ le_four _ a.long in
    rw c.at.ensures (number_large c.args.self.now _ _ 4 _ _ _ a.did _ a.did.file (omega arith))

pub returns : goal.returns
returns c =
    let a = c.in_ok-array.ensures in
    let n = c.from_le_bytes-n.ensures ∙ le_four _ a.long in
    rw n (number_got c.args.self.now _ _ 4 _ _ _ a.did (omega arith))
