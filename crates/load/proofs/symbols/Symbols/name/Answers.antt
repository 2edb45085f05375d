use Rattle.std.proofs.Common.{◌≡◌, ℕ, ◌<◌, ◌≤◌, List, [], length, get_or, Some, None, Option, sym, refl, ap, ◌∙◌, arith, rules, Bor}
use Rattle.std.specs.Option.{unwrap_or}
use Rattle.std.proofs.lemmas.List.{get_or_past}
use Rattle.std.proofs.lemmas.Bool.Decides.{nat_tests}
use Rattle.redbin.specs.Bytes.{number}
use Rattle.redbin.specs.Reading.{name_at}
use Rattle.load.specs.Names.{bytes_in}
use Rattle.load.specs.Tables.{or_empty, table_of}
use Rattle.load.proofs.Tabled.{name_in, length_names}
use Rattle.load.proofs.symbols.Symbols.name.Goals as goal

named_or : (o : Option (Bor (List ℕ))) (d : Bor (List ℕ)) → d.now ≡ [] → (unwrap_or o d).now ≡ or_empty (bytes_in o)
named_or None d h = h
named_or (Some x) d h = refl

pub returns-in-None : goal.returns-in-None
returns-in-None c =
    let s = c.args.self in
    let past : length s.offsets.now ≤ c.args.index = grind (arith, nat_tests, c.in-None.ensures.lookup) in
    sym (get_or_past (table_of s) c.args.index [] (omega (arith, length_names s.strings.now s.offsets.now)))

pub returns-in-Some : goal.returns-in-Some
returns-in-Some c =
    let s = c.args.self in
    let at : get_or s.offsets.now c.args.index [] ≡ c.in-Some.offset.now = search rules in
    let lt : c.args.index < length s.offsets.now = grind (arith, nat_tests, c.in-Some.ensures.lookup.0) in
    rw c.unwrap_or.ensures (named_or c.named.result _ refl ∙ ap or_empty (c.named.ensures ∙ ap (λ (o : List ℕ). name_at s.strings.now (number o)) (sym at))
    ∙ sym (name_in s.strings.now s.offsets.now c.args.index lt))
