use Rattle.std.proofs.Common.{◌+◌, ◌-◌, length, ◌∙◌, rules, tests}
use Rattle.std.proofs.lemmas.Iterator.{YieldsList-from_take}
use Rattle.std.proofs.lemmas.Iterator.Search.{any_from_yields_List}
use Rattle.std.proofs.lemmas.Iterator.Consumers.{YieldsList-at, YieldsList-from_first}
use Rattle.steps.specs.declared.parts.Node.TheVariants.{At}
use Rattle.steps.specs.Outline.{values, entry_at}
use Rattle.document.specs.Standing.{standing}
use Rattle.redbin.specs.Bytes.{same}
use Rattle.save.specs.Values.{name_in, inner_of}
use Rattle.save.specs.Inners.{inner_left}
use Rattle.save.proofs.Sane.{kept_sound}
use Rattle.save.proofs.Listed.{among}
use Rattle.save.proofs.symbols.is_among.Goals as goal

pub returns : goal.returns
returns c =
    let all = values (standing c.args.store.now) in
    let o = c.args.object in
    any_from_yields_List (λ v. same (name_in (entry_at all v)) c.args.name.now) c.any.new.self _ c.any.result c.any.ensures.ran
    (YieldsList-from_take c.args.count (YieldsList-at c.take.ensures.source (YieldsList-from_first (λ v. v) inner_left (inner_of all (At o) (o + 1) (length all - (o + 1))) c.of.ensures)) c.take.ensures.count) (λ x b q k. search (rules, tests))
    ∙ among all (kept_sound c.args.store.now) o c.args.count c.args.name.now c.requires.there c.requires.within
