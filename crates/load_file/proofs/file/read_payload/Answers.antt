use Rattle.std.proofs.Common.{ℕ, List, Result, Ok, Err, ap, rules}
use Rattle.refusal.specs.declared.Refusal.{Refusal}
use Rattle.steps.specs.Steps.{Steps}
use Rattle.document.specs.Standing.{standing}
use Rattle.redbin.specs.Reading.{Reads, answer, records}
use Rattle.load.specs.Ran.{state, rest_of}
use Rattle.load.specs.Filled.{Came}
use Rattle.load_file.specs.Files.{Comes, ReadPayload}
use Rattle.load_file.specs.Scopes.{within}
use Rattle.load_file.proofs.file.read_payload.Goals as goal

comes_of : (m : Reads (Unit {0})) (x y : List ℕ) (d f : Steps) (result : Result (Unit {0}) Refusal) → Came m x d result y f → Comes (answer (m (state x d))) result f
comes_of m x y d f (Ok u) g = ap answer g
comes_of m x y d f (Err w) g = ap answer g

pub returns : goal.returns
returns c =
    let r = c.args.reader in
    let b = c.args.store.now in
    let g = c.records.ensures.read.fills.filled in
    let p : ReadPayload r c.args.scope c.args.count b c.records.result c.records.new.filler.store.now =
    record { memory = g.memory; comes = λ s e u. comes_of (records (within c.args.scope s) c.args.count) (rest_of r) (rest_of c.records.new.filler.reader) (standing b) (standing c.records.new.filler.store.now) c.records.result (g.came s e u) } in
    search (rules, p)
