use Rattle.listing.proofs.Appends.{gained}
use Rattle.listing.proofs.lines.Lines.append.Goals as goal

pub invariant_of-self : goal.invariant_of-self
invariant_of-self g c =
    let t = gained g.F.LineForm.form g.met.F.LineForm.sound _ _ _ _ _ c.args.self.now.kept c.in_ok-check.ensures c.put_line-end.ensures.after c.put_line-end.ensures.end in
    record { kept = t.kept }

pub returns-clause-added : goal.returns-clause-added
returns-clause-added g c =
    let t = gained g.F.LineForm.form g.met.F.LineForm.sound _ _ _ _ _ c.args.self.now.kept c.in_ok-check.ensures c.put_line-end.ensures.after c.put_line-end.ensures.end in
    record { fitted = t.fitted; means = t.meant; left = t.appended }
