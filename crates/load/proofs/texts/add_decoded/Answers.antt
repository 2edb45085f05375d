use Rattle.std.proofs.Common.{◌≡◌, ℕ, Bool, true, false, List, ◌∷◌, length, take, None, sym, refl, ap, ◌∙◌, subst}
use Rattle.steps.specs.Given.{tag}
use Rattle.steps.specs.Steps.{Steps, Step, put, text, begin}
use Rattle.steps.specs.Law.{Memory, so_much, has_room, refusal}
use Rattle.redbin.specs.Layout.{width}
use Rattle.redbin.specs.Reading.{room, push, after}
use Rattle.document.specs.Standing.{standing, memory_lent, free_points}
use Rattle.load.specs.Runs.{entries}
use Rattle.load.specs.Texts.{decoded}
use Rattle.load.proofs.Adding.{accepts_it}
use Rattle.load.proofs.Series.{length_entries}
use Rattle.load.proofs.texts.add_decoded.Goals as goal

-- there is room for so many codepoints, or there is not
counted : (m : Memory) (e : Steps) (n k len : ℕ) (b : Bool) → k ≡ n → b ≡ has_room m e (so_much 1 n len) → has_room m e (so_much 1 k len) ≡ b
counted m e n k len b p h = subst (λ (k : ℕ). has_room m e (so_much 1 k len) ≡ b) (sym p) (sym h)

lawful_at : (m m' : Memory) (e e' : Steps) (s s' : Step) → m' ≡ m → e' ≡ e → s' ≡ s → refusal m e s ≡ None → refusal m' e' s' ≡ None
lawful_at m m' e e' s s' p q r h = rw (p, q, r) h

pub returns-then-not-has_room : goal.returns-then-not-has_room
unfolding room push after
returns-then-not-has_room c =
    let b = c.args.store.now in
    let t = c.args.text in
    let lacks = counted (memory_lent b) (standing b) t.count _ (length (tag c.args.start.label).name) false (length_entries (width t.unit) t.count t.bytes.now) c.if-not-has_room.ensures in
    rw c.at.ensures (record { memory = refl; came = λ s bytes u. rw (u, lacks) })

pub add_text-requires : goal.add_text-requires
add_text-requires c =
    let b = c.args.store.now in
    let m = memory_lent b in
    let e = standing b in
    let l = tag c.args.start.label in
    let t = c.args.text in
    let ps = entries (width t.unit) t.count t.bytes.now in
    let w = c.decode.ensures in
    let k = length_entries (width t.unit) t.count t.bytes.now in
    let same : take t.count (free_points c.decode.new.store) ≡ ps = rw k at w.written in
    let p = c.requires.ready in
    let has = counted m e t.count _ (length l.name) true k c.if-not-has_room.ensures in
    record {
      counted = ap length same ∙ k;
      lawful = lawful_at m _ e _ (begin l (put (decoded t))) _ w.memory w.told (ap (λ (qs : List ℕ). begin l (put (text t.kind t.head qs))) same)
          (accepts_it m e l (put (decoded t)) p.named c.requires.allowed p.deep has);
    }

pub returns : goal.returns
unfolding room push after
returns c =
    let b = c.args.store.now in
    let m = memory_lent b in
    let e = standing b in
    let l = tag c.args.start.label in
    let t = c.args.text in
    let ps = entries (width t.unit) t.count t.bytes.now in
    let w = c.decode.ensures in
    let g = c.add_text.ensures in
    let k = length_entries (width t.unit) t.count t.bytes.now in
    let same : take t.count (free_points c.decode.new.store) ≡ ps = rw k at w.written in
    let has = counted m e t.count _ (length l.name) true k c.if-not-has_room.ensures in
    let told : standing c.add_text.new.self ≡ begin l (put (decoded t)) ∷ e =
    g.told ∙ ap (λ (f : Steps). begin l (put (text t.kind t.head (take t.count (free_points c.decode.new.store)))) ∷ f) w.told ∙ ap (λ (qs : List ℕ). begin l (put (text t.kind t.head qs)) ∷ e) same in
    record { memory = g.memory ∙ w.memory; came = λ s bytes u. rw (u, has, told) }
