use Rattle.std.proofs.Common.{◌≡◌, ◌<◌, ◌≤◌, [], length, get_or, ◌∙◌, drop_of_length-le, arith, rules}
use Rattle.steps.specs.Outline.{values, walk}
use Rattle.redbin.specs.Bytes.{number}
use Rattle.document.specs.Standing.{standing}
use Rattle.load.proofs.Walked.{walk_on, walk_off}
use Rattle.load.proofs.paths.follow.Goals as goal

pub returns-in_err-number : goal.returns-in_err-number
returns-in_err-number c =
    let i = c.loop-offset.offset-index in
    let lt : i < length c.args.path.now = omega arith in
    let v : c.word.result ≡ number (get_or c.args.path.now i []) = search rules in
    rw c.from_residual.ensures (walk_off (values (standing c.args.store.now)) c.loop-offset.node c.args.path.now i lt (rw v at c.in_err-number.ensures) ∙ c.loop-offset.invariant)

pub loop-offset-preserved : goal.loop-offset-preserved
loop-offset-preserved c =
    let i = c.loop-offset.offset-index in
    let lt : i < length c.args.path.now = omega arith in
    let v : c.word.result ≡ number (get_or c.args.path.now i []) = search rules in
    rw c.through-node.ensures (walk_on (values (standing c.args.store.now)) c.loop-offset.node c.args.path.now i lt c.in_ok-number.number (rw v at c.in_ok-number.ensures) ∙ c.loop-offset.invariant)

pub returns : goal.returns
unfolding walk
returns c =
    let le : length c.args.path.now ≤ c.loop-offset.offset-index = omega arith in
    rw (drop_of_length-le c.args.path.now le) at c.loop-offset.invariant
