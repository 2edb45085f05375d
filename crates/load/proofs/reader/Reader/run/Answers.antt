use Rattle.std.proofs.Common.{◌∙◌}
use Rattle.std.proofs.lemmas.Result.{err_from_is_err_and}
use Rattle.redbin.specs.Layout.{width}
use Rattle.load.proofs.Series.{run_short, run_got, run_bad}
use Rattle.load.proofs.Chunks.{count_of}
use Rattle.load.proofs.reader.Reader.run.Goals as goal

pub returns-in_err-bytes-clause-did : goal.returns-in_err-bytes-clause-did
returns-in_err-bytes-clause-did c =
    let p = err_from_is_err_and c.from_residual.result c.from_residual.ensures.1 in
    rw (p.1, p.2) (run_short c.args.self.now _ _ _ _ _ c.args.n _ (rw c.span.ensures at c.in_err-bytes.ensures.did))

pub returns-in-None-clause-did : goal.returns-in-None-clause-did
returns-in-None-clause-did c =
    let u = width c.args.unit in
    let b = c.in_ok-bytes.ensures in
    let k = count_of c.args.unit c.args.n c.in_ok-bytes.bytes.now (b.long ∙ c.span.ensures) in
    run_got c.args.self.now _ _ u _ _ c.args.n _ (rw c.span.ensures at b.did) (rw c.span.ensures at b.part) (b.long ∙ c.span.ensures) (rw c.span.ensures at b.moved) (rw k at c.in-None.ensures)

pub returns-in-Some-clause-did : goal.returns-in-Some-clause-did
returns-in-Some-clause-did c =
    let u = width c.args.unit in
    let b = c.in_ok-bytes.ensures in
    let k = count_of c.args.unit c.args.n c.in_ok-bytes.bytes.now (b.long ∙ c.span.ensures) in
    rw (c.at.ensures, c.bytes-in-Some.ensures) (run_bad c.args.self.now _ _ u _ _ c.args.n _ (rw c.span.ensures at b.did) (rw c.span.ensures at b.part) (b.long ∙ c.span.ensures) _ b.did.file c.in-Some.i (rw k at c.in-Some.ensures))
