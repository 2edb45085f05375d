use Rattle.std.proofs.Common.{length, ap, ◌∙◌, arith}
use Rattle.steps.specs.Items.{items}
use Rattle.steps.specs.Given.{tag}
use Rattle.steps.specs.Steps.{begin}
use Rattle.steps.specs.Build.{more}
use Rattle.document.specs.Stands.{used_of, lent_of}
use Rattle.document.specs.Standing.{in_use, memory_lent, next_value}
use Rattle.steps.proofs.Adjusted.{length_adjust_at}
use Rattle.document.proofs.Agreed.{added}
use Rattle.document.proofs.Checked.{agrees}
use Rattle.document.proofs.Adding.{roomy, few, raises, same_room, sized_twice, same_memory, celled, spanned_room, stands_after}
use Rattle.document.proofs.store.Store.add_cell.Goals as goal

pub overflow_cast-cell : goal.overflow_cast-cell
overflow_cast-cell c =
    let s = c.args.self.now in
    let r = roomy s (tag c.args.label) (next_value s c.args.sort) c.requires.lawful in
    omega (arith, few s.names (length c.args.label.name.now) r.name)

pub append-requires : goal.append-requires
append-requires c = let s = c.args.self.now in (roomy s (tag c.args.label) (next_value s c.args.sort) c.requires.lawful).name

pub raise-requires-clause-inside : goal.raise-requires-clause-inside
raise-requires-clause-inside c = (agrees c.args.self.now).good.open_one

pub raise-requires-clause-room : goal.raise-requires-clause-room
raise-requires-clause-room c =
    let s = c.args.self.now in
    raises s _ _ (roomy s (tag c.args.label) (next_value s c.args.sort) c.requires.lawful)

pub push-requires : goal.push-requires
push-requires c =
    let s = c.args.self.now in
    let n = ap length c.raise.ensures.items ∙ length_adjust_at s.innermost more (items s.cells) in
    let q = same_room s.cells c.raise.new.self c.raise.ensures.sized in
    let r = roomy s (tag c.args.label) (next_value s c.args.sort) c.requires.lawful in
    omega (arith, n, q, r.one)

pub extend-requires : goal.extend-requires
extend-requires c =
    spanned_room c.args.self.now (tag c.args.label) c.args.sort c.span.result.len c.requires.placed (ap (λ x. x.len) c.span.ensures) c.requires.lawful

pub depth_with-self-requires : goal.depth_with-self-requires
depth_with-self-requires c =
    let s = c.args.self.now in
    let r = roomy s (tag c.args.label) (next_value s c.args.sort) c.requires.lawful in
    omega (arith, r.deep)

pub invariant_of-self : goal.invariant_of-self
invariant_of-self c =
    let s = c.args.self.now in
    let v = c.args.sort in
    let cells = c.push.new.self in
    let ps = c.extend.new.self in
    let ns = c.append.new.self in
    let is =
    celled s (tag c.args.label) v c.count-number.result c.count.result c.span.result.len (items c.raise.new.self) (items cells) (items ps) (items ns) c.inside-self.result c.depth_with-self.result
    c.requires.placed c.count-number.ensures c.count.ensures (ap (λ x. x.len) c.span.ensures) c.raise.ensures.items c.push.ensures.items c.extend.ensures.items c.append.ensures.items
    c.inside-self.ensures c.depth_with-self.ensures in
    let z = sized_twice s.cells c.raise.new.self cells c.raise.ensures.sized c.push.ensures.sized in
    record {
      cells_bound = z.1 ∙ s.cells_bound;
      points_bound = c.extend.ensures.sized.1 ∙ s.points_bound;
      names_bound = c.append.ensures.sized.1 ∙ s.names_bound;
      stands =
          stands_after (memory_lent s) (lent_of cells ps ns) (begin (tag c.args.label) (next_value s v)) (in_use s) (used_of cells ps ns c.inside-self.result c.depth_with-self.result) s.stands
          c.requires.lawful is (same_memory s.cells cells s.codepoints ps s.names ns z c.extend.ensures.sized c.append.ensures.sized);
    }

pub returns : goal.returns
returns c =
    let s = c.args.self.now in
    let v = c.args.sort in
    let cells = c.push.new.self in
    let ps = c.extend.new.self in
    let ns = c.append.new.self in
    let is =
    celled s (tag c.args.label) v c.count-number.result c.count.result c.span.result.len (items c.raise.new.self) (items cells) (items ps) (items ns) c.inside-self.result c.depth_with-self.result
    c.requires.placed c.count-number.ensures c.count.ensures (ap (λ x. x.len) c.span.ensures) c.raise.ensures.items c.push.ensures.items c.extend.ensures.items c.append.ensures.items
    c.inside-self.ensures c.depth_with-self.ensures in
    let z = sized_twice s.cells c.raise.new.self cells c.raise.ensures.sized c.push.ensures.sized in
    record {
      memory = same_memory s.cells cells s.codepoints ps s.names ns z c.extend.ensures.sized c.append.ensures.sized;
      told = (added (memory_lent s) (begin (tag c.args.label) (next_value s v)) (in_use s) (used_of cells ps ns c.inside-self.result c.depth_with-self.result) s.stands c.requires.lawful is).told;
    }
