-- A field that is read, and a value that is added with it.
use Rattle.std.proofs.Common.{◌≡◌, ℕ, length, Ok, Err, Result, sym, refl, ap, ◌∙◌}
use Rattle.refusal.specs.declared.Refusal.{Refusal}
use Rattle.document.specs.declared.store.Store.{Store}
use Rattle.document.specs.Standing.{standing}
use Rattle.redbin.specs.Reading.{Setting, Reads, after, ◌>>=◌}
use Rattle.load.specs.declared.reader.Reader.{Reader}
use Rattle.load.specs.Ran.{Did, rest_of, size_of}
use Rattle.load.specs.Filled.{Added, Filled}
use Rattle.load.proofs.Then.{came_then}

module _ {A : Type 0} (r s : Reader) (b : Store) (field : ℕ → Reads A) (k : Setting → A → Reads (Unit {0})) where
  pub field_add : (t : Store) (a : A) (answer : Result (Unit {0}) Refusal) → Did r field (Ok a) s → Added b (λ c. k c a) answer t → Filled r b (λ c. field c.size >>= k c) answer s t
  field_add t a answer d g = record {
    file = d.file;
    memory = g.memory;
    came = λ c q u. came_then (field c.size) (k c) a (rest_of r) (rest_of s) (rest_of s) (standing b) (standing b) (standing t) answer (rw q (d.ran (standing b))) (g.came c (rest_of s) u);
  }

module _ {A B : Type 0} (r s : Reader) (b : Store) (field : ℕ → Reads A) (k : Setting → A → Reads B) where
  pub field_fill : (q : Reader) (t : Store) (a : A) (answer : Result B Refusal) → Did r field (Ok a) s → Filled s b (λ c. k c a) answer q t → Filled r b (λ c. field c.size >>= k c) answer q t
  field_fill q t a answer d g = record {
    file = g.file ∙ d.file;
    memory = g.memory;
    came = λ c e u.
        let f : c.size ≡ size_of s = e ∙ ap (λ (x : _). length x.now) (sym d.file) in
        came_then (field c.size) (k c) a (rest_of r) (rest_of s) (rest_of q) (standing b) (standing b) (standing t) answer (rw e (d.ran (standing b))) (g.came c f u);
  }

  pub field_stop : (w : Refusal) → Did r field (Err w) s → Filled r b (λ c. field c.size >>= k c) (Err w) s b
  unfolding after
  field_stop w d = record { file = d.file; memory = refl; came = λ c q u. rw (q, d.ran (standing b)) }
