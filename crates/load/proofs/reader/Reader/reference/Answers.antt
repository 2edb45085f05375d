use Rattle.std.proofs.lemmas.Result.{err_from_is_err_and}
use Rattle.load.proofs.Inner.{reference_stop, reference_got}
use Rattle.load.proofs.reader.Reader.reference.Goals as goal

pub returns-in_err-inner_header : goal.returns-in_err-inner_header
returns-in_err-inner_header c =
    let p = err_from_is_err_and c.from_residual.result c.from_residual.ensures.1 in
    rw (p.1, p.2) (reference_stop c.args.self.now _ _ c.in_err-inner_header.ensures)

pub returns : goal.returns
returns c = reference_got c.args.self.now _ _ c.in_ok-inner_header.ensures
