use Rattle.std.proofs.Common.{length, refl, ap, ◌∙◌, arith}
use Rattle.steps.specs.declared.parts.Node.TheVariants.{Root}
use Rattle.steps.specs.Outline.{values, inner_names}
use Rattle.document.specs.Standing.{standing}
use Rattle.save.proofs.Oldest.{oldest_all}
use Rattle.save.proofs.Sane.{kept_fine}
use Rattle.save.proofs.Cleaned.{clean_symbols}
use Rattle.save.proofs.Whole.{text_records_low, text_low, before_payload, end_is, payload_ready, file_written, written_file}
use Rattle.save.proofs.write_to.Goals as goal

pub overflow_cast-sizes : goal.overflow_cast-sizes
overflow_cast-sizes c = omega (arith, (text_records_low (standing c.args.store.now) _ _ _ c.requires.exact c.requires.low).1)

pub symbol_table-requires : goal.symbol_table-requires
symbol_table-requires c =
    record {
      counted = c.requires.exact.count;
      sized = c.requires.exact.strings;
      low = omega (arith, (text_records_low (standing c.args.store.now) _ _ _ c.requires.exact c.requires.low).0);
    }

pub overflow_sub-start : goal.overflow_sub-start
overflow_sub-start c =
    let e = standing c.args.store.now in
    let r = c.inner_count-roots.ensures ∙ ap (λ ys. length (inner_names ys Root)) (oldest_all (values e) c.count.result (omega (arith, c.count.ensures))) in
    omega (arith, text_low e _ _ _ _ _ c.requires.exact c.flags.ensures r, end_is e _ _ _ _ _ c.requires.exact c.flags.ensures r (λ o. o) _ _ _ c.requires.fresh c.requires.low c.requires.fits c.heading.ensures c.symbol_table.ensures _ c.size-end.ensures)

pub payload-requires : goal.payload-requires
payload-requires c =
    let e = standing c.args.store.now in
    let r = c.inner_count-roots.ensures ∙ ap (λ ys. length (inner_names ys Root)) (oldest_all (values e) c.count.result (omega (arith, c.count.ensures))) in
    let n = end_is e _ _ _ _ _ c.requires.exact c.flags.ensures r (λ o. o) _ _ _ c.requires.fresh c.requires.low c.requires.fits c.heading.ensures c.symbol_table.ensures _ c.size-end.ensures in
    record {
      ready = payload_ready e _ _ _ _ _ c.requires.exact c.flags.ensures r (λ o. o) _ _ _ c.requires.fresh c.requires.low c.requires.fits c.heading.ensures c.symbol_table.ensures _ _ c.size-end.ensures refl (clean_symbols (values e) (kept_fine c.args.store.now));
      low = omega (arith, n, c.size-end.ensures, before_payload e _ _ _ _ _ c.requires.exact c.flags.ensures r, c.requires.low);
    }

pub returns : goal.returns
returns c =
    let e = standing c.args.store.now in
    let r = c.inner_count-roots.ensures ∙ ap (λ ys. length (inner_names ys Root)) (oldest_all (values e) c.count.result (omega (arith, c.count.ensures))) in
    let g = file_written e _ _ _ _ _ c.requires.exact c.flags.ensures r (λ o. o) _ _ _ c.requires.fresh c.requires.low c.requires.fits c.heading.ensures c.symbol_table.ensures _ c.payload.ensures in
    let w = written_file _ _ e c.requires.fresh c.requires.low c.requires.fits g in
    record { name = w.0; bytes = w.1 }
