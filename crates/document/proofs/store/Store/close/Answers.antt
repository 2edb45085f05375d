use Rattle.std.proofs.Common.{◌+◌, ◌-◌, ◌^◌, ◌<◌, sym, refl, ap, ◌∙◌, subst, arith}
use Rattle.steps.specs.Steps.{close}
use Rattle.steps.specs.Items.{items}
use Rattle.steps.specs.Build.{Built, blank, cell_at, last}
use Rattle.document.specs.Stands.{used_of, lent_of}
use Rattle.document.specs.Standing.{in_use, memory_lent}
use Rattle.steps.proofs.Piled.{uses}
use Rattle.document.proofs.Agreed.{added}
use Rattle.document.proofs.Adding.{same_memory, stands_after}
use Rattle.document.proofs.Closing.{nothing_open, ready, closed_in_use}
use Rattle.document.proofs.store.Store.close.Goals as goal

pub returns-in_default : goal.returns-in_default
returns-in_default c = record { memory = refl; law = (nothing_open c.args.self.now c.in_default.is, refl); still = refl }

pub get-holder-requires : goal.get-holder-requires
get-holder-requires c = (ready c.args.self.now c.in-At.number c.in-At.is).within

pub add_close-requires-clause-room : goal.add_close-requires-clause-room
add_close-requires-clause-room c =
    let s = c.args.self.now in
    let r = ready s c.in-At.number c.in-At.is in
    let f : (last (items s.cells)).closes + 1 < 2 ^ 32 = omega (arith, r.few, uses s.cells, s.cells.bounded, s.cells.small) in
    subst (λ n. (cell_at (items s.cells) (n - 1)).closes + 1 < 2 ^ 32) (sym c.count-last.ensures) f

pub overflow_sub-self : goal.overflow_sub-self
overflow_sub-self c = let r = ready c.args.self.now c.in-At.number c.in-At.is in omega (arith, r.deep)

pub invariant_of-self : goal.invariant_of-self
invariant_of-self c =
    let s = c.args.self.now in
    let cells = c.add_close.new.self in
    let t : Built = used_of cells s.codepoints s.names c.get-holder.result.holder (s.depth - 1) in
    let is =
    closed_in_use (in_use s) t c.in-At.number c.count-last.result c.in-At.is c.count-last.ensures c.add_close.ensures.items refl refl
    (ap (λ x. x.holder) (c.get-holder.ensures blank)) refl in
    let z = c.add_close.ensures.sized in
    record {
      cells_bound = z.1 ∙ s.cells_bound;
      points_bound = s.points_bound;
      names_bound = s.names_bound;
      stands = stands_after (memory_lent s) (lent_of cells s.codepoints s.names) close (in_use s) t s.stands (ready s c.in-At.number c.in-At.is).lawful is
          (same_memory s.cells cells s.codepoints s.codepoints s.names s.names z (refl, refl) (refl, refl));
    }

pub returns : goal.returns
returns c =
    let s = c.args.self.now in
    let cells = c.add_close.new.self in
    let r = ready s c.in-At.number c.in-At.is in
    let t : Built = used_of cells s.codepoints s.names c.get-holder.result.holder (s.depth - 1) in
    let is =
    closed_in_use (in_use s) t c.in-At.number c.count-last.result c.in-At.is c.count-last.ensures c.add_close.ensures.items refl refl
    (ap (λ x. x.holder) (c.get-holder.ensures blank)) refl in
    record {
      memory = same_memory s.cells cells s.codepoints s.codepoints s.names s.names c.add_close.ensures.sized (refl, refl) (refl, refl);
      law = (r.lawful, refl, (added (memory_lent s) close (in_use s) t s.stands r.lawful is).told);
      still = tt;
    }
