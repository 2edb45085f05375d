-- What a share's record comes to.
use Rattle.std.proofs.Common.{◌≡◌, ℕ, ◌-◌, ◌%◌, Bool, not, eqb, List, length, Some, None, Ok, Err, Result, sym, refl, ap, ◌∙◌}
use Rattle.refusal.specs.declared.Refusal.{Refusal}
use Rattle.refusal.specs.declared.Reason.TheVariants.{BadType, BadBits, BadPath, Large}
use Rattle.refusal.specs.declared.Part.TheVariants.{Reference}
use Rattle.steps.specs.declared.parts.Node.{Node}
use Rattle.steps.specs.declared.parts.Share.{Share}
use Rattle.steps.specs.Steps.{Steps, Tag}
use Rattle.steps.specs.Outline.{share_family}
use Rattle.steps.specs.Law.{field_end}
use Rattle.document.specs.declared.store.Store.{Store}
use Rattle.document.specs.Standing.{standing}
use Rattle.redbin.specs.Reading.{Read, Reads, Setting, because, after, here, word, any_word, refuse_when, run, target, target_of, add_share, return, ◌>>=◌}
use Rattle.load.specs.declared.reader.Reader.{Reader}
use Rattle.load.specs.Ran.{Did, state, rest_of}
use Rattle.load.specs.Filled.{Added, Filled}
use Rattle.load.specs.Shared.{shared, reference}
use Rattle.load.proofs.Filling.{field_add, field_fill, field_stop}
use Rattle.load.proofs.Inner.{tested}
use Rattle.load.proofs.Tabled.{after_after}
use Rattle.load.proofs.Then.{came_by}

module _ (c : Setting) (start : ℕ) (l : Tag) (s : Share) (x : List ℕ) (e : Steps) where
  share_starts : add_share c start l s (state x e) ≡ after (reference c.size (state x e)) (λ place. word c.size Reference >>= λ n. run c.size Reference 4 field_end Large n >>= λ p. target c place (share_family s) p >>= shared c start l s)
  unfolding add_share after here
  share_starts =
      let k : ℕ → Reads (Unit {0}) = λ place. word c.size Reference >>= λ n. run c.size Reference 4 field_end Large n >>= λ p. target c place (share_family s) p >>= shared c start l s in
      let place = c.size - length x in
      let t : ℕ → Bool = λ h. not (eqb (h % 256) 255) in
      let b : ℕ → Bool = λ h. not (eqb h 255) in
      let y = any_word c.size Reference (state x e) in
      tested y t b Reference place (λ _. k place)
      ∙ sym (ap (λ (z : Read ℕ). after z k) (tested y t b Reference place (λ _. return place))
      ∙ after_after (after y (λ h r. after (refuse_when (t h) BadType Reference place r) (λ _ r₂. after (refuse_when (b h) BadBits Reference place r₂) (λ _. return h)))) (λ _. return place) k)

-- a share's record, part by part
module _ (r : Reader) (b : Store) (start : ℕ) (l : Tag) (s : Share) where
  abbrev path_then : ℕ → Setting → List ℕ → Reads (Unit {0})
  path_then place c p = target c place (share_family s) p >>= shared c start l s

  abbrev count_then : ℕ → Setting → ℕ → Reads (Unit {0})
  count_then place c n = run c.size Reference 4 field_end Large n >>= path_then place c

  abbrev place_then : Setting → ℕ → Reads (Unit {0})
  place_then c place = word c.size Reference >>= count_then place c

  by_parts : (answer : Result (Unit {0}) Refusal) (q : Reader) (t : Store) → Filled r b (λ c. reference c.size >>= place_then c) answer q t → Filled r b (λ c. add_share c start l s) answer q t
  by_parts answer q t g = record {
    file = g.file;
    memory = g.memory;
    came = λ c e u. came_by (add_share c start l s) (reference c.size >>= place_then c) (rest_of r) (rest_of r) (rest_of q) (standing b) (standing b) (standing t) answer (share_starts c start l s (rest_of r) (standing b)) (g.came c e u);
  }

  pub place_stops : (q : Reader) (w : Refusal) → Did r reference (Err w) q → Filled r b (λ c. add_share c start l s) (Err w) q b
  place_stops q w d = by_parts _ q b (field_stop r q b reference place_then w d)

  module _ (r₁ : Reader) (place : ℕ) (d₁ : Did r reference (Ok place) r₁) where
    past_place : (answer : Result (Unit {0}) Refusal) (q : Reader) (t : Store) → Filled r₁ b (λ c. place_then c place) answer q t → Filled r b (λ c. add_share c start l s) answer q t
    past_place answer q t g = by_parts answer q t (field_fill r r₁ b reference place_then q t place answer d₁ g)

    pub count_stops : (q : Reader) (w : Refusal) → Did r₁ (λ n. word n Reference) (Err w) q → Filled r b (λ c. add_share c start l s) (Err w) q b
    count_stops q w d = past_place _ q b (field_stop r₁ q b (λ n. word n Reference) (count_then place) w d)

    module _ (r₂ : Reader) (n : ℕ) (d₂ : Did r₁ (λ z. word z Reference) (Ok n) r₂) where
      past_count : (answer : Result (Unit {0}) Refusal) (q : Reader) (t : Store) → Filled r₂ b (λ c. count_then place c n) answer q t → Filled r b (λ c. add_share c start l s) answer q t
      past_count answer q t g = past_place answer q t (field_fill r₁ r₂ b (λ z. word z Reference) (count_then place) q t n answer d₂ g)

      pub path_stops : (q : Reader) (w : Refusal) → Did r₂ (λ z. run z Reference 4 field_end Large n) (Err w) q → Filled r b (λ c. add_share c start l s) (Err w) q b
      path_stops q w d = past_count _ q b (field_stop r₂ q b (λ z. run z Reference 4 field_end Large n) (path_then place) w d)

      module _ (r₃ : Reader) (p : List ℕ) (d₃ : Did r₂ (λ z. run z Reference 4 field_end Large n) (Ok p) r₃) where
        past_path : (answer : Result (Unit {0}) Refusal) (t : Store) → Added b (λ c. path_then place c p) answer t → Filled r b (λ c. add_share c start l s) answer r₃ t
        past_path answer t g = past_count answer r₃ t (field_add r₂ r₃ b (λ z. run z Reference 4 field_end Large n) (path_then place) t p answer d₃ g)

        pub share_lost : target_of (standing b) (share_family s) p ≡ None → Filled r b (λ c. add_share c start l s) (Err (because BadPath Reference place)) r₃ b
        unfolding after target
        share_lost h = past_path _ b (record { memory = refl; came = λ c bytes u. rw (u, h) })

        pub share_found : (t : Store) (node : Node) (answer : Result (Unit {0}) Refusal) → target_of (standing b) (share_family s) p ≡ Some node → Added b (λ c. shared c start l s node) answer t → Filled r b (λ c. add_share c start l s) answer r₃ t
        unfolding after target
        share_found t node answer h g = past_path answer t (record {
          memory = g.memory;
          came = λ c bytes u. came_by (path_then place c p) (shared c start l s node) bytes bytes bytes (standing b) (standing b) (standing t) answer (rw (u, h)) (g.came c bytes u);
        })
