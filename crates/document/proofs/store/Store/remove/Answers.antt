use Rattle.std.proofs.Common.{◌≡◌, ◌≤◌, length, sym, refl, ap, ◌∙◌, subst, arith}
use Rattle.std.proofs.lemmas.List.{length-take-le}
use Rattle.steps.specs.Items.{items}
use Rattle.steps.specs.Build.{Built, Under, cut_at, cell_at}
use Rattle.document.specs.Stands.{used_of, lent_of}
use Rattle.document.specs.Standing.{in_use, memory_lent}
use Rattle.document.proofs.Checked.{agrees}
use Rattle.document.proofs.Adding.{same_memory, sized_twice}
use Rattle.document.proofs.Undone.{last_held, last_fine, cut_fine, removed, stands_in}
use Rattle.document.proofs.store.Store.remove.Goals as goal

pub lower-requires : goal.lower-requires
lower-requires c =
    let s = c.args.self.now in
    let n : length (items c.cut.new.self) ≡ c.args.number =
    ap length c.cut.ensures.items ∙ length-take-le c.args.number (items s.cells) (omega (arith, c.requires.counted)) in
    let u : Under c.args.number c.args.cell.holder =
    subst (λ d. Under c.args.number d.holder) (sym c.requires.read) (last_held (in_use s) c.args.number (agrees s).good c.requires.counted) in
    subst (λ k. Under k c.args.cell.holder) (sym n) u

pub cut-requires-2 : goal.cut-requires-2
cut-requires-2 c =
    let s = c.args.self.now in
    let f = last_fine (in_use s) c.args.number (agrees s).good c.requires.counted in
    let h : cut_at c.args.cell.sort (length (items s.codepoints)) ≤ length (items s.codepoints) =
    subst (λ d. cut_at d.sort (length (items s.codepoints)) ≤ length (items s.codepoints)) (sym c.requires.read) (cut_fine (length (items s.codepoints)) _ _ f.sorted) in
    let e = c.codepoints_before-codepoints.ensures ∙ ap (cut_at c.args.cell.sort) c.count.ensures in
    subst (λ k. k ≤ length (items s.codepoints)) (sym e) h

pub cut-requires-3 : goal.cut-requires-3
cut-requires-3 c =
    let s = c.args.self.now in
    let f = last_fine (in_use s) c.args.number (agrees s).good c.requires.counted in
    let h : (cell_at (items s.cells) c.args.number).name.start ≤ length (items s.names) = omega (arith, f.named) in
    subst (λ d. d.name.start ≤ length (items s.names)) (sym c.requires.read) h

pub invariant_of-self : goal.invariant_of-self
invariant_of-self c =
    let s = c.args.self.now in
    let cells = c.lower.new.self in
    let ps = c.cut-2.new.self in
    let ns = c.cut-3.new.self in
    let t : Built = used_of cells ps ns c.args.cell.holder c.depth_without-self.result in
    let u =
    removed (memory_lent s) (in_use s) t c.args.cell c.args.number c.count.result c.codepoints_before-codepoints.result (items c.cut.new.self) s.stands c.requires.counted c.requires.read
    c.requires.closes c.count.ensures c.codepoints_before-codepoints.ensures c.cut.ensures.items c.lower.ensures.items c.cut-2.ensures.items c.cut-3.ensures.items refl
    c.depth_without-self.ensures in
    let z = sized_twice s.cells c.cut.new.self cells c.cut.ensures.sized c.lower.ensures.sized in
    record {
      cells_bound = z.1 ∙ s.cells_bound;
      points_bound = c.cut-2.ensures.sized.1 ∙ s.points_bound;
      names_bound = c.cut-3.ensures.sized.1 ∙ s.names_bound;
      stands = stands_in (memory_lent s) (lent_of cells ps ns) (in_use s) t u (same_memory s.cells cells s.codepoints ps s.names ns z c.cut-2.ensures.sized c.cut-3.ensures.sized);
    }

pub returns : goal.returns
returns c =
    let s = c.args.self.now in
    let cells = c.lower.new.self in
    let ps = c.cut-2.new.self in
    let ns = c.cut-3.new.self in
    let t : Built = used_of cells ps ns c.args.cell.holder c.depth_without-self.result in
    let u =
    removed (memory_lent s) (in_use s) t c.args.cell c.args.number c.count.result c.codepoints_before-codepoints.result (items c.cut.new.self) s.stands c.requires.counted c.requires.read
    c.requires.closes c.count.ensures c.codepoints_before-codepoints.ensures c.cut.ensures.items c.lower.ensures.items c.cut-2.ensures.items c.cut-3.ensures.items refl
    c.depth_without-self.ensures in
    let z = sized_twice s.cells c.cut.new.self cells c.cut.ensures.sized c.lower.ensures.sized in
    record { memory = same_memory s.cells cells s.codepoints ps s.names ns z c.cut-2.ensures.sized c.cut-3.ensures.sized; step = u.step; told = u.told }
