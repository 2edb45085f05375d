use Rattle.std.proofs.Common.{length, ap, arith}
use Rattle.listing.specs.Pairs.{pair_of}
use Rattle.listing.specs.Sizes.{length_line, line_short}
use Rattle.listing.proofs.writes.line_size.Goals as goal

pub overflow_add-result-4 : goal.overflow_add-result-4
overflow_add-result-4 g c =
    let f = g.F.LineForm.form in
    let p = pair_of c.args.entry.now in
    omega (arith, length_line f p, line_short f p c.requires, g.met.F.LineForm.sound.short, ap length c.head.ensures)

pub overflow_add-result-5 : goal.overflow_add-result-5
overflow_add-result-5 g c =
    let f = g.F.LineForm.form in
    let p = pair_of c.args.entry.now in
    omega (arith, length_line f p, line_short f p c.requires, g.met.F.LineForm.sound.short, ap length c.head.ensures)
