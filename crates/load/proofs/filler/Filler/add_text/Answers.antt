use Rattle.std.proofs.Common.{◌<◌, [], refl}
use Rattle.std.proofs.lemmas.Bool.{lt-ltb, and_from}
use Rattle.std.proofs.lemmas.Result.{err_from_is_err_and}
use Rattle.refusal.specs.declared.Part.TheVariants.{Record}
use Rattle.refusal.specs.declared.Reason.TheVariants.{Large, BadContent}
use Rattle.steps.specs.Given.{tag}
use Rattle.redbin.specs.Layout.{width}
use Rattle.redbin.proofs.Got.{below_got, run_got}
use Rattle.redbin.proofs.Kept.{codepoints_from}
use Rattle.load.specs.Ran.{size_of}
use Rattle.load.specs.Runs.{entries}
use Rattle.load.proofs.Texting.{head_stops, length_stops, points_stop, blanks_stop, text_added}
use Rattle.load.proofs.filler.Filler.add_text.Goals as goal

pub returns-in_err-head : goal.returns-in_err-head
returns-in_err-head c =
    let p = err_from_is_err_and c.from_residual.result c.from_residual.ensures.1 in
    rw (p.1, p.2) (record { filled = head_stops c.args.self.now.reader c.args.self.now.store.now c.args.start.place (tag c.args.start.label) c.args.kind (width c.args.unit) _ _ c.in_err-head.ensures; lent = refl })

pub returns-in_err-count : goal.returns-in_err-count
returns-in_err-count c =
    let p = err_from_is_err_and c.from_residual-in_err-count.result c.from_residual-in_err-count.ensures.1 in
    rw (p.1, p.2) (record { filled = length_stops c.args.self.now.reader c.args.self.now.store.now c.args.start.place (tag c.args.start.label) c.args.kind (width c.args.unit) _ _ c.in_ok-head.ensures _ _ c.in_err-count.ensures; lent = refl })

pub returns-in_err-bytes : goal.returns-in_err-bytes
returns-in_err-bytes c =
    let p = err_from_is_err_and c.from_residual-in_err-bytes.result c.from_residual-in_err-bytes.ensures.1 in
    rw (p.1, p.2) (record { filled = points_stop c.args.self.now.reader c.args.self.now.store.now c.args.start.place (tag c.args.start.label) c.args.kind (width c.args.unit) _ _ c.in_ok-head.ensures _ _ c.in_ok-count.ensures _ _ c.in_err-bytes.ensures.did; lent = refl })

pub returns-in_err-run : goal.returns-in_err-run
returns-in_err-run c =
    let p = err_from_is_err_and c.from_residual-in_err-run.result c.from_residual-in_err-run.ensures.1 in
    rw (p.1, p.2) (record {
      filled = blanks_stop c.args.self.now.reader c.args.self.now.store.now c.args.start.place (tag c.args.start.label) c.args.kind (width c.args.unit) _ _ c.in_ok-head.ensures _ _ c.in_ok-count.ensures _ _ c.in_ok-bytes.ensures.did
          _ _ c.fill.ensures c.in_ok-bytes.ensures.long _ _ c.in_err-run.ensures.did;
      lent = refl;
    })

pub add_decoded-requires-clause-allowed : goal.add_decoded-requires-clause-allowed
add_decoded-requires-clause-allowed c =
    let u = width c.args.unit in
    let head = c.in_ok-head.head in
    let ps = entries u c.in_ok-count.count c.in_ok-bytes.bytes.now in
    let small : head < 2147483648 = (below_got (size_of c.args.self.now.reader) Record 4 2147483648 Large _ head _ (c.in_ok-head.ensures.ran [])).0 in
    let fine = (run_got (size_of c.number.new.self) Record u 1114112 BadContent c.in_ok-count.count _ ps _ (c.in_ok-bytes.ensures.did.ran [])).0 in
    and_from _ _ (lt-ltb _ _ small) (codepoints_from ps fine)

pub returns : goal.returns
returns c =
    record {
      filled = text_added c.args.self.now.reader c.args.self.now.store.now c.args.start.place (tag c.args.start.label) c.args.kind (width c.args.unit) _ _ c.in_ok-head.ensures _ _ c.in_ok-count.ensures _ _ c.in_ok-bytes.ensures.did
          _ _ c.fill.ensures c.in_ok-bytes.ensures.long _ _ _ _ c.in_ok-run.ensures.did c.add_decoded.ensures;
      lent = refl;
    }
