use Rattle.std.proofs.Common.{[], ◌∷◌, ◌++◌, length, ap, ◌∙◌, append_assoc, arith}
use Rattle.listing.specs.Pairs.{pair_of}
use Rattle.listing.specs.Memory.{written}
use Rattle.listing.specs.Sizes.{length_line}
use Rattle.listing.proofs.Written.{upto_more}
use Rattle.listing.proofs.writes.put_line.Goals as goal

pub returns : goal.returns
returns g c =
    let n = length_line g.F.LineForm.form (pair_of c.args.entry.now) in
    let hl = ap length c.head.ensures in
    let o = g.M.Memory.stored c.args.memory.now in
    let at = c.args.at in
    let name = c.args.entry.now.name.now in
    let head = c.head.result.now in
    let gap = c.gap.result ∷ [] in
    let time = c.delay_parts.result.0.now in
    let unit = c.delay_parts.result.1.now in
    let u = upto_more o at head name _ _ _ _ (c.put-at.ensures.after, c.put-at.ensures.end) (omega arith) c.put-at-2.ensures.after c.put-at-2.ensures.end in
    let v = upto_more o at (head ++ name) gap _ _ _ _ u (omega arith) c.put-at-3.ensures.after c.put-at-3.ensures.end in
    let w = upto_more o at ((head ++ name) ++ gap) time _ _ _ _ v (omega arith) c.put-at-4.ensures.after c.put-at-4.ensures.end in
    let x = upto_more o at (((head ++ name) ++ gap) ++ time) unit _ _ _ _ w (omega arith) c.put-at-5.ensures.after c.put-at-5.ensures.end in
    let y = upto_more o at ((((head ++ name) ++ gap) ++ time) ++ unit) (10 ∷ []) _ _ _ _ x (omega arith) c.put.ensures.after c.put.ensures.end in
    record { after = y.0 ∙ ap (written o at) (simp (append_assoc, c.gap.ensures, c.head.ensures, ← c.delay_parts.ensures.text)); end = omega (arith, y.1) }
