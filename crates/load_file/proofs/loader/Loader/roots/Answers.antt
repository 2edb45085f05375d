use Rattle.std.proofs.Common.{arith}
use Rattle.std.proofs.lemmas.Result.{err_from_is_err_and}
use Rattle.load_file.proofs.Roots.{root_start, root_prepared, root_named, root_again, root_broke, root_end}
use Rattle.load_file.proofs.loader.Loader.roots.Goals as goal

pub loop-init : goal.loop-init
loop-init c = root_start c.args.self.now c.args.filler.now c.args.count

pub value-requires : goal.value-requires
value-requires c =
    let i = c.loop.invariant in
    record { prepared = root_prepared _ _ _ _ c.requires _ _ _ i; named = root_named _ _ _ _ c.requires _ _ _ i }

pub returns-in_err-value : goal.returns-in_err-value
returns-in_err-value c =
    let p = err_from_is_err_and c.from_residual.result c.from_residual.ensures.1 in
    rw (p.1, p.2) (root_broke _ _ _ _ c.requires _ _ _ c.loop.invariant (omega arith) _ _ _ c.in_err-value.ensures.read)

pub loop-preserved : goal.loop-preserved
loop-preserved c =
    let g = c.in_ok-value.ensures in
    root_again _ _ _ _ c.requires _ _ _ c.loop.invariant (omega arith) _ _ _ g.depth g.read

pub returns : goal.returns
returns c = root_end _ _ _ _ c.requires _ _ _ c.loop.invariant (omega arith)
