use Rattle.std.proofs.Common.{ℕ, [], replicate, refl}
use Rattle.std.proofs.lemmas.Result.{err_from_is_err_and}
use Rattle.redbin.specs.Reading.{Setting, Reads, each, value, records, ◌>>◌}
use Rattle.load.specs.Ends.{payload_rest, nothing_left}
use Rattle.load_file.specs.declared.scope.Scope.{Scope}
use Rattle.load_file.specs.Scopes.{within}
use Rattle.load_file.proofs.Chains.{filled_then, filled_stop, did_fills}
use Rattle.load_file.proofs.Contents.{filled_by}
use Rattle.load_file.proofs.Roots.{records_by}
use Rattle.load_file.proofs.loader.Loader.records.Goals as goal

-- the payload's size, the root values, the end
module _ (k : Scope) (n : ℕ) where
  abbrev sized : Setting → Reads (Unit {0})
  sized c = payload_rest k.payload

  abbrev rooted : Setting → Reads (Unit {0})
  rooted c = each (value (within k c) 32) (replicate n [])

  abbrev ended : Setting → Reads (Unit {0})
  ended c = nothing_left c.size

  abbrev whole : Setting → Reads (Unit {0})
  whole c = records (within k c) n

pub returns-in_err-check_payload-clause-read : goal.returns-in_err-check_payload-clause-read
returns-in_err-check_payload-clause-read c =
    let p = err_from_is_err_and c.from_residual.result c.from_residual.ensures.1 in
    let a = c.args.self.now in
    let k = a.scope in
    let n = c.args.count in
    let r = c.args.filler.now.reader in
    let b = c.args.filler.now.store.now in
    rw (p.1, p.2) (record {
      fills = record {
        filled = filled_by r r b b (whole k n) (λ s. sized k n s >> (rooted k n s >> ended k n s)) _ (λ s q. records_by (within k s) n q)
            (filled_stop r r b b (sized k n) (λ s _. rooted k n s >> ended k n s) _ (did_fills r r b (λ _. payload_rest k.payload) _ c.in_err-check_payload.ensures));
        lent = refl;
      };
      scope = refl;
    })

pub returns-in_err-roots-clause-read : goal.returns-in_err-roots-clause-read
returns-in_err-roots-clause-read c =
    let p = err_from_is_err_and c.from_residual-in_err-roots.result c.from_residual-in_err-roots.ensures.1 in
    let a = c.args.self.now in
    let k = a.scope in
    let n = c.args.count in
    let r = c.args.filler.now.reader in
    let b = c.args.filler.now.store.now in
    let g = c.in_err-roots.ensures in
    rw (p.1, p.2) (record {
      fills = record {
        filled = filled_by r _ b _ (whole k n) (λ s. sized k n s >> (rooted k n s >> ended k n s)) _ (λ s q. records_by (within k s) n q)
            (filled_then r r b b (sized k n) (λ s _. rooted k n s >> ended k n s) _ _ _ _ (did_fills r r b (λ _. payload_rest k.payload) _ c.in_ok-check_payload.ensures)
            (filled_stop r _ b _ (rooted k n) (λ s _. ended k n s) _ g.fills.filled));
        lent = g.fills.lent;
      };
      scope = g.scope;
    })

pub returns-clause-read : goal.returns-clause-read
returns-clause-read c =
    let a = c.args.self.now in
    let k = a.scope in
    let n = c.args.count in
    let r = c.args.filler.now.reader in
    let b = c.args.filler.now.store.now in
    let g = c.in_ok-roots.ensures in
    record {
      fills = record {
        filled = filled_by r _ b _ (whole k n) (λ s. sized k n s >> (rooted k n s >> ended k n s)) _ (λ s q. records_by (within k s) n q)
            (filled_then r r b b (sized k n) (λ s _. rooted k n s >> ended k n s) _ _ _ _ (did_fills r r b (λ _. payload_rest k.payload) _ c.in_ok-check_payload.ensures)
            (filled_then r _ b _ (rooted k n) (λ s _. ended k n s) _ _ _ _ g.fills.filled (did_fills _ _ _ nothing_left _ c.check_end.ensures)));
        lent = g.fills.lent;
      };
      scope = g.scope;
    }
