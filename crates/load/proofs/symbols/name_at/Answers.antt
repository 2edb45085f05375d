use Rattle.std.proofs.Common.{◌≡◌, drop, sym, ◌∙◌, arith}
use Rattle.std.proofs.lemmas.List.{take_rest}
use Rattle.load.proofs.Names.{name_behind, name_endless, name_lawful, name_unlawful}
use Rattle.load.proofs.symbols.name_at.Goals as goal

pub returns-in_err-rest : goal.returns-in_err-rest
returns-in_err-rest c = rw c.from_residual.ensures (sym (name_behind c.args.strings.now c.args.offset (omega (arith, c.in_err-rest.ensures.lookup))))

pub returns-in_err-end : goal.returns-in_err-end
returns-in_err-end c =
    let rest : c.in_ok-rest.rest.now ≡ drop c.args.offset c.args.strings.now = c.in_ok-rest.ensures.lookup.0.2 ∙ take_rest c.args.strings.now c.args.offset in
    rw c.from_residual-in_err-end.ensures (sym (name_endless c.args.strings.now c.args.offset (rw rest at c.in_err-end.ensures)))

pub returns-then-is_name : goal.returns-then-is_name
returns-then-is_name c =
    let rest : c.in_ok-rest.rest.now ≡ drop c.args.offset c.args.strings.now = c.in_ok-rest.ensures.lookup.0.2 ∙ take_rest c.args.strings.now c.args.offset in
    let z = rw rest at c.in_ok-end.ensures in
    let l = rw rest at c.if-is_name.ensures in
    rw rest (sym (name_lawful c.args.strings.now c.args.offset c.in_ok-end.end z.0 z.1 z.2 (sym l)))

pub returns-else-is_name : goal.returns-else-is_name
returns-else-is_name c =
    let rest : c.in_ok-rest.rest.now ≡ drop c.args.offset c.args.strings.now = c.in_ok-rest.ensures.lookup.0.2 ∙ take_rest c.args.strings.now c.args.offset in
    let z = rw rest at c.in_ok-end.ensures in
    let l = rw rest at c.if-is_name.ensures in
    sym (name_unlawful c.args.strings.now c.args.offset c.in_ok-end.end z.0 z.1 z.2 (sym l))
