use Rattle.std.proofs.Common.{sym, refl, ap, ◌∙◌, subst}
use Rattle.steps.specs.Steps.{Steps}
use Rattle.document.specs.Standing.{standing, memory_lent}
use Rattle.redbin.specs.Reading.{load}
use Rattle.load_file.specs.Files.{Untouched}
use Rattle.load_file.proofs.Roots.{some_stand, none_stand, untouched}
use Rattle.load_file.proofs.file.load.Goals as goal

pub returns-then-not-is_empty : goal.returns-then-not-is_empty
returns-then-not-is_empty c =
    let s = c.args.store.now in
    rw c.into.ensures (record {
      memory = refl;
      comes = some_stand (memory_lent s) (standing s) c.args.file.now (sym c.if-not-is_empty.ensures);
      stays = refl;
      untouched = untouched (standing s) s;
    })

pub read_file-requires : goal.read_file-requires
read_file-requires c = none_stand (standing c.args.store.now) (sym c.if-not-is_empty.ensures)

pub returns-in-Ok : goal.returns-in-Ok
returns-in-Ok c =
    let s = c.args.store.now in
    let f = c.args.file.now in
    let e = none_stand (standing s) (sym c.if-not-is_empty.ensures) in
    let g = c.in-Ok.ensures in
    record {
      memory = g.memory;
      comes = ap (λ (x : Steps). load (memory_lent s) x f) e ∙ g.comes;
      stays = tt;
      untouched = subst (λ (x : Steps). Untouched x s c.read_file.new.store) (sym e) tt;
    }

pub returns-in-Err : goal.returns-in-Err
returns-in-Err c =
    let s = c.args.store.now in
    let f = c.args.file.now in
    let e = none_stand (standing s) (sym c.if-not-is_empty.ensures) in
    let g = c.in-Err.ensures in
    let h = c.clear.ensures in
    record {
      memory = h.memory ∙ g.memory;
      comes = ap (λ (x : Steps). load (memory_lent s) x f) e ∙ g.comes;
      stays = h.told ∙ sym e;
      untouched = subst (λ (x : Steps). Untouched x s c.clear.new.self) (sym e) tt;
    }
