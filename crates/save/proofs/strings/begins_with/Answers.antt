use Rattle.std.proofs.Common.{◌&&◌, length, take, sym, refl, ap, ◌∙◌, arith}
use Rattle.redbin.specs.Bytes.{same}
use Rattle.save.proofs.Stored.{begun, zero_at}
use Rattle.save.proofs.strings.begins_with.Goals as goal

pub returns-then-eq : goal.returns-then-eq
returns-then-eq c =
    let xs = c.args.stored.now in
    let name = c.args.name.now in
    let z = zero_at xs (length name) c.get.result _ (c.get.ensures.lookup.4 (omega arith)) refl in
    c.eq-then-eq.ensures ∙ sym (begun xs name ∙ ap (λ t. t && same (take (length name) xs) name) (sym z ∙ sym c.if-eq.ensures))

pub returns-else-eq : goal.returns-else-eq
returns-else-eq c =
    let xs = c.args.stored.now in
    let name = c.args.name.now in
    let z = zero_at xs (length name) c.get.result _ (c.get.ensures.lookup.4 (omega arith)) refl in
    c.if-eq.false ∙ sym (begun xs name ∙ ap (λ t. t && same (take (length name) xs) name) (sym z ∙ sym c.if-eq.ensures))
