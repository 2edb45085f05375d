use Rattle.std.proofs.Common.{◌≡◌, ◌+◌, ◌-◌, ◌≤◌, take, drop, sym, ap, ◌∙◌, arith}
use Rattle.std.proofs.lemmas.List.{take-take, drop-take, length-take-le}
use Rattle.steps.proofs.pile.Pile.part.Goals as goal

pub returns : goal.returns
returns g c =
    let xs = c.args.self.now.memory.now in
    let s = c.args.span.start in
    let l = c.args.span.len in
    let u = c.args.self.now.used in
    let h : s + l ≤ u = omega (arith, c.requires, length-take-le u xs c.args.self.now.within) in
    let a : s + l - s ≡ l = omega arith in
    let b : s + (u - s) ≡ u = omega arith in
    let k : l ≤ u - s = omega arith in
    ap (λ n. take n (drop s xs)) a ∙ sym (take-take l (u - s) (drop s xs) k)
    ∙ ap (take l) (sym (drop-take s (u - s) xs) ∙ ap (λ n. drop s (take n xs)) b)
