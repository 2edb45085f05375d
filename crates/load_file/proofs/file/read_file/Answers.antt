use Rattle.std.proofs.Common.{◌≡◌, ℕ, cond, eqb, List, [], length, get_or, Result, sym, refl, ap, ◌∙◌, subst, arith}
use Rattle.std.proofs.lemmas.Result.{err_from_is_err_and}
use Rattle.refusal.specs.declared.Refusal.{Refusal}
use Rattle.refusal.specs.declared.Part.TheVariants.{Header}
use Rattle.steps.specs.Steps.{Name, Steps}
use Rattle.steps.specs.Outline.{opened}
use Rattle.document.specs.Standing.{standing, memory_lent}
use Rattle.redbin.specs.Layout.{flags_place, table_flag}
use Rattle.redbin.specs.Reading.{Setting, Reads, word, symbol_table, return, in_memory, read as reading}
use Rattle.load.specs.declared.reader.Reader.{Reader}
use Rattle.load.specs.Ran.{Ran, Did, size_of, rest_of}
use Rattle.load.proofs.Then.{ran_at}
use Rattle.load_file.specs.Files.{Comes}
use Rattle.load_file.proofs.Roots.{table_lawful, whole_start, whole_count, whole_payload, whole_table, whole_records, read_refused, comes_by}
use Rattle.load_file.proofs.file.read_file.Goals as goal

-- the symbols of a reader's file
abbrev tabled : List ℕ → ℕ → Reads (List Name)
tabled file size = cond (eqb (get_or file flags_place 0) table_flag) (symbol_table size) (return [])

tabled_at : (r s t : Reader) (answer : Result (List Name) Refusal) → s.file ≡ r.file → Did s (tabled s.file.now) answer t → Ran (tabled r.file.now (size_of r)) (rest_of s) answer (rest_of t)
tabled_at r s t answer e d =
    let d' : Did s (tabled r.file.now) answer t = subst (λ (f : List ℕ). Did s (tabled f) answer t) (ap (λ x. x.now) e) d in
    ran_at r s t (tabled r.file.now) answer d' e

pub returns-in_err-start_of_file : goal.returns-in_err-start_of_file
returns-in_err-start_of_file c =
    let p = err_from_is_err_and c.from_residual.result c.from_residual.ensures.1 in
    let k = in_memory (memory_lent c.args.store.now) in
    let r = c.new-reader.result in
    let e = ap (λ x. x.now) c.new-reader.ensures.file in
    rw (p.1, p.2) (record {
      memory = refl;
      comes = ap (reading k) (sym e) ∙ read_refused k r.file.now _ (whole_start k r.file.now [] [] _ (c.in_err-start_of_file.ensures.ran []));
    })

pub returns-in_err-count : goal.returns-in_err-count
returns-in_err-count c =
    let p = err_from_is_err_and c.from_residual-in_err-count.result c.from_residual-in_err-count.ensures.1 in
    let k = in_memory (memory_lent c.args.store.now) in
    let r = c.new-reader.result in
    let e = ap (λ x. x.now) c.new-reader.ensures.file in
    let g₁ = c.in_ok-start_of_file.ensures in
    rw (p.1, p.2) (record {
      memory = refl;
      comes = ap (reading k) (sym e) ∙ read_refused k r.file.now _ (whole_count k r.file.now _ [] (g₁.ran []) _ (ran_at r _ _ (λ n. word n Header) _ c.in_err-count.ensures g₁.file []));
    })

pub returns-in_err-payload : goal.returns-in_err-payload
returns-in_err-payload c =
    let p = err_from_is_err_and c.from_residual-in_err-payload.result c.from_residual-in_err-payload.ensures.1 in
    let k = in_memory (memory_lent c.args.store.now) in
    let r = c.new-reader.result in
    let e = ap (λ x. x.now) c.new-reader.ensures.file in
    let g₁ = c.in_ok-start_of_file.ensures in
    let g₂ = c.in_ok-count.ensures in
    let w₂ = ran_at r _ _ (λ n. word n Header) _ g₂ g₁.file [] in
    rw (p.1, p.2) (record {
      memory = refl;
      comes = ap (reading k) (sym e) ∙ read_refused k r.file.now _ (whole_payload k r.file.now _ [] (g₁.ran []) _ _ w₂ _ (ran_at r _ _ (λ n. word n Header) _ c.in_err-payload.ensures (g₂.file ∙ g₁.file) []));
    })

pub returns-in_err-symbols : goal.returns-in_err-symbols
returns-in_err-symbols c =
    let p = err_from_is_err_and c.from_residual-in_err-symbols.result c.from_residual-in_err-symbols.ensures.1 in
    let k = in_memory (memory_lent c.args.store.now) in
    let r = c.new-reader.result in
    let e = ap (λ x. x.now) c.new-reader.ensures.file in
    let g₁ = c.in_ok-start_of_file.ensures in
    let g₂ = c.in_ok-count.ensures in
    let g₃ = c.in_ok-payload.ensures in
    let w₂ = ran_at r _ _ (λ n. word n Header) _ g₂ g₁.file [] in
    let w₃ = ran_at r _ _ (λ n. word n Header) _ g₃ (g₂.file ∙ g₁.file) [] in
    rw (p.1, p.2) (record {
      memory = refl;
      comes = ap (reading k) (sym e) ∙ read_refused k r.file.now _ (whole_table k r.file.now _ [] (g₁.ran []) _ _ w₂ _ _ w₃ _ (tabled_at r _ _ _ (g₃.file ∙ g₂.file ∙ g₁.file) c.in_err-symbols.ensures []));
    })

pub read_payload-requires-clause-lawful : goal.read_payload-requires-clause-lawful
read_payload-requires-clause-lawful c = table_lawful _ _ _ _ _ (c.in_ok-symbols.ensures.ran [])

pub read_payload-requires-clause-prepared : goal.read_payload-requires-clause-prepared
read_payload-requires-clause-prepared c =
    let z : length (opened (standing c.args.store.now)) ≡ 0 = ap (λ (e : Steps). length (opened e)) c.requires in
    omega (arith, z)

pub returns : goal.returns
returns c =
    let b = c.args.store.now in
    let k = in_memory (memory_lent b) in
    let r = c.new-reader.result in
    let e = ap (λ x. x.now) c.new-reader.ensures.file in
    let g₁ = c.in_ok-start_of_file.ensures in
    let g₂ = c.in_ok-count.ensures in
    let g₃ = c.in_ok-payload.ensures in
    let g₄ = c.in_ok-symbols.ensures in
    let w₂ = ran_at r _ _ (λ n. word n Header) _ g₂ g₁.file [] in
    let w₃ = ran_at r _ _ (λ n. word n Header) _ g₃ (g₂.file ∙ g₁.file) [] in
    let f₃ = g₃.file ∙ g₂.file ∙ g₁.file in
    let w₄ = tabled_at r _ _ _ f₃ g₄ [] in
    let whole = whole_records k r.file.now _ [] (g₁.ran []) _ _ w₂ _ _ w₃ _ _ w₄ in
    let s : Setting = record { size = length r.file.now; uses = k; table = []; payload = 0 } in
    let size : length r.file.now ≡ size_of c.symbols.new.reader = ap (λ (x : _). length x.now) (sym (g₄.file ∙ f₃)) in
    let g = c.read_payload.ensures in
    let x = rest_of c.symbols.new.reader in
    let comes = comes_by k r.file.now x _ _ (standing b) _ _ c.requires whole (g.comes s size refl) in
    record { memory = g.memory; comes = subst (λ (f : List ℕ). Comes (reading k f) c.read_payload.result (standing c.read_payload.new.store)) e comes }
