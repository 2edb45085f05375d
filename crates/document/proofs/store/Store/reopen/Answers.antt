use Rattle.std.proofs.Common.{◌+◌, refl, ◌∙◌, arith}
use Rattle.steps.specs.Build.{Built}
use Rattle.document.specs.Stands.{used_of, lent_of}
use Rattle.document.specs.Standing.{in_use, memory_lent}
use Rattle.document.proofs.Undone.{reopened, stands_in, depth_small}
use Rattle.document.proofs.Adding.{same_memory}
use Rattle.document.proofs.store.Store.reopen.Goals as goal

pub overflow_add-self : goal.overflow_add-self
overflow_add-self c = omega (arith, depth_small c.args.self.now)

pub invariant_of-self : goal.invariant_of-self
invariant_of-self c =
    let s = c.args.self.now in
    let cells = c.drop_close.new.self in
    let t : Built = used_of cells s.codepoints s.names c.climb-innermost.result (s.depth + 1) in
    let u =
    reopened (memory_lent s) (in_use s) t c.args.cell c.args.number c.inside-start.result s.stands c.requires.counted c.requires.read c.requires.closes
    c.inside-start.ensures c.drop_close.ensures.items refl refl c.climb-innermost.ensures refl in
    let z = c.drop_close.ensures.sized in
    record {
      cells_bound = z.1 ∙ s.cells_bound;
      points_bound = s.points_bound;
      names_bound = s.names_bound;
      stands = stands_in (memory_lent s) (lent_of cells s.codepoints s.names) (in_use s) t u (same_memory s.cells cells s.codepoints s.codepoints s.names s.names z (refl, refl) (refl, refl));
    }

pub returns : goal.returns
returns c =
    let s = c.args.self.now in
    let cells = c.drop_close.new.self in
    let t : Built = used_of cells s.codepoints s.names c.climb-innermost.result (s.depth + 1) in
    let u =
    reopened (memory_lent s) (in_use s) t c.args.cell c.args.number c.inside-start.result s.stands c.requires.counted c.requires.read c.requires.closes
    c.inside-start.ensures c.drop_close.ensures.items refl refl c.climb-innermost.ensures refl in
    record { memory = same_memory s.cells cells s.codepoints s.codepoints s.names s.names c.drop_close.ensures.sized (refl, refl) (refl, refl); step = u.step; told = u.told }
