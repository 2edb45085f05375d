use Rattle.std.proofs.Common.{◌<◌, ◌∙◌, arith}
use Rattle.std.proofs.lemmas.Result.{err_from_is_err_and}
use Rattle.redbin.specs.Bytes.{number}
use Rattle.load.proofs.Fields.{le_eight, number_short, number_got}
use Rattle.load.proofs.reader.Reader.double_word.Goals as goal

pub returns-in_err-bytes : goal.returns-in_err-bytes
returns-in_err-bytes c =
    let p = err_from_is_err_and c.from_residual.result c.from_residual.ensures.1 in
    rw (p.1, p.2) (number_short c.args.self.now _ _ 8 _ _ _ c.in_err-bytes.ensures.did)

pub returns : goal.returns
returns c =
    let a = c.in_ok-bytes.ensures in
    let n = c.from_le_bytes.ensures ∙ le_eight _ a.long in
    let fits : number c.in_ok-bytes.bytes.now < 18446744073709551616 = omega (arith, c.from_le_bytes.type_inv) in
    rw n (number_got c.args.self.now _ _ 8 _ _ _ a.did fits)
