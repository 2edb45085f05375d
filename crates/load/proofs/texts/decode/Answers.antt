use Rattle.std.proofs.Common.{◌≡◌, ℕ, ◌+◌, ◌<◌, List, ◌∷◌, [], ◌++◌, length, take, sym, refl, ap, ◌∙◌, subst, add-one, arith, rules, length-append}
use Rattle.steps.specs.Steps.{Steps}
use Rattle.steps.specs.Law.{Memory, points, used, usable}
use Rattle.redbin.specs.Layout.{width}
use Rattle.document.specs.Standing.{standing, memory_lent}
use Rattle.load.specs.Runs.{entry, entries}
use Rattle.load.proofs.Chunks.{indexed_yielded, indexed_turn, indexed_end}
use Rattle.load.proofs.Series.{entries_more, length_entries}
use Rattle.load.proofs.texts.decode.Goals as goal

fits_in : (e f : Steps) (m n : Memory) (i : ℕ) → e ≡ f → m ≡ n → used e points + i < usable m points → used f points + i < usable n points
fits_in e f m n i p q h = subst (λ (n : Memory). used f points + i < usable n points) q (subst (λ (f : Steps). used f points + i < usable m points) p h)

one_more : (u k : ℕ) (bs fs gs : List ℕ) (j p m : ℕ) → m ≡ k + 1 → j ≡ k → p ≡ entry u k bs → take k fs ≡ entries u k bs → take (j + 1) gs ≡ take j fs ++ (p ∷ []) → take m gs ≡ entries u m bs
one_more u k bs fs gs j p m em ej ep ek w =
    let w' : take (k + 1) gs ≡ take k fs ++ (p ∷ []) = rw ej at w in
    rw em (w' ∙ ap (λ (ns : List ℕ). ns ++ (p ∷ [])) ek ∙ ap (λ (q : ℕ). entries u k bs ++ (q ∷ [])) ep ∙ sym (entries_more u k bs) ∙ ap (λ (n : ℕ). entries u n bs) (sym (add-one k)))

pub loop-i-init : goal.loop-i-init
unfolding entries
loop-i-init c = (refl, refl, refl)

pub write_codepoint-requires : goal.write_codepoint-requires
write_codepoint-requires c =
    let z = indexed_yielded c.args.text.unit c.into_iter-i-iterator.result c.args.text.count c.args.text.bytes.now (search rules) (search rules) (search rules) c.args.text.long in
    let h = indexed_turn c.args.text.unit c.into_iter-i-iterator.result c.loop-i.i-iterator c.next.new.self c.args.text.count c.args.text.bytes.now z c.loop-i.yielded c.loop-i.yielded_by c.next.result _ c.in-Some.is c.next.ensures.steps in
    let i = c.loop-i.invariant in
    let f : used (standing c.args.store.now) points + c.in-Some.i < usable (memory_lent c.args.store.now) points = omega (arith, c.requires, h.0, h.1) in
    fits_in (standing c.args.store.now) _ (memory_lent c.args.store.now) _ c.in-Some.i (sym i.1) (sym i.0) f

pub loop-i-preserved : goal.loop-i-preserved
loop-i-preserved c =
    let bs = c.args.text.bytes.now in
    let xs = c.loop-i.yielded in
    let z = indexed_yielded c.args.text.unit c.into_iter-i-iterator.result c.args.text.count bs (search rules) (search rules) (search rules) c.args.text.long in
    let h = indexed_turn c.args.text.unit c.into_iter-i-iterator.result c.loop-i.i-iterator c.next.new.self c.args.text.count bs z xs c.loop-i.yielded_by c.next.result _ c.in-Some.is c.next.ensures.steps in
    let i = c.loop-i.invariant in
    let w = c.write_codepoint.ensures in
    let n : length (xs ++ ((c.in-Some.i, c.in-Some.codepoint) ∷ [])) ≡ length xs + 1 = length-append xs _ in
    (w.memory ∙ i.0, w.told ∙ i.1, one_more (width c.args.text.unit) (length xs) bs _ _ c.in-Some.i _ _ n h.1 (c.number.ensures ∙ h.2) i.2 w.written)

pub returns : goal.returns
returns c =
    let z = indexed_yielded c.args.text.unit c.into_iter-i-iterator.result c.args.text.count c.args.text.bytes.now (search rules) (search rules) (search rules) c.args.text.long in
    let n = indexed_end c.args.text.unit c.into_iter-i-iterator.result c.loop-i.i-iterator c.next.new.self c.args.text.count c.args.text.bytes.now z c.loop-i.yielded c.loop-i.yielded_by c.next.result c.in-None.is c.next.ensures.steps in
    let i = c.loop-i.invariant in
    let e = rw n at i.2 in
    record { memory = i.0; told = i.1; written = rw (length_entries (width c.args.text.unit) c.args.text.count c.args.text.bytes.now) e }
