use Rattle.std.proofs.lemmas.Result.{err_from_is_err_and}
use Rattle.load.proofs.Inner.{context_stop, context_got}
use Rattle.load.proofs.reader.Reader.context.Goals as goal

pub returns-in_err-header : goal.returns-in_err-header
returns-in_err-header c =
    let p = err_from_is_err_and c.from_residual.result c.from_residual.ensures.1 in
    rw (p.1, p.2) (context_stop c.args.self.now _ _ (rw (c.context_header.ensures, c.context_header-marked.ensures) at c.in_err-header.ensures))

pub returns : goal.returns
returns c = rw c.context_header-marked.ensures (context_got c.args.self.now _ _ (rw (c.context_header.ensures, c.context_header-marked.ensures) at c.in_ok-header.ensures))
