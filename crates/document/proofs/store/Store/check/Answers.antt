use Rattle.std.proofs.Common.{length, ap, ◌∙◌, arith}
use Rattle.steps.specs.Law.{has_room, so_much}
use Rattle.document.specs.Standing.{standing, memory_lent}
use Rattle.document.proofs.Checked.{deep_enough, not_deep}
use Rattle.document.proofs.store.Store.check.Goals as goal

pub returns-then-self-ge-DEEPEST : goal.returns-then-self-ge-DEEPEST
returns-then-self-ge-DEEPEST c =
    let n = c.if-not-name_ok.ensures in
    let v = c.if-not-item_ok.ensures in
    let d = deep_enough c.args.self.now (omega arith) in
    rw (← n, ← v, d)

pub returns-then-not-has_room : goal.returns-then-not-has_room
returns-then-not-has_room c =
    let n = c.if-not-name_ok.ensures in
    let v = c.if-not-item_ok.ensures in
    let d = not_deep c.args.self.now (omega arith) in
    let s = c.args.self.now in
    let r = c.if-not-has_room.ensures ∙ ap (λ ps. has_room (memory_lent s) (standing s) (so_much 1 (length ps) (length c.args.label.name.now))) c.codepoints.ensures in
    rw (← n, ← v, d, ← r)

pub returns : goal.returns
returns c =
    let n = c.if-not-name_ok.ensures in
    let v = c.if-not-item_ok.ensures in
    let d = not_deep c.args.self.now (omega arith) in
    let s = c.args.self.now in
    let r = c.if-not-has_room.ensures ∙ ap (λ ps. has_room (memory_lent s) (standing s) (so_much 1 (length ps) (length c.args.label.name.now))) c.codepoints.ensures in
    rw (← n, ← v, d, ← r)
