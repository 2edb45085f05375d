-- One reading after another.
use Rattle.std.proofs.Common.{◌≡◌, ℕ, length, Ok, Err, Result, sym, refl, ap, ◌∙◌}
use Rattle.refusal.specs.declared.Refusal.{Refusal}
use Rattle.document.specs.declared.store.Store.{Store}
use Rattle.document.specs.Standing.{standing}
use Rattle.redbin.specs.Reading.{Setting, Reads, after, return, in_memory, ◌>>=◌, ◌>>◌}
use Rattle.load.specs.declared.reader.Reader.{Reader}
use Rattle.load.specs.Ran.{Ran, Did, size_of, rest_of}
use Rattle.load.specs.Filled.{Came, Added, Filled}
use Rattle.load.proofs.Then.{came_then}

pub same_size : (r s : Reader) → s.file ≡ r.file → size_of s ≡ size_of r
same_size r s h = ap (λ (x : _). length x.now) h

-- a step that reads nothing, and then what is done with it
module _ {B : Type 0} (r : Reader) (b t : Store) (m : Setting → Reads (Unit {0})) (k : Setting → Reads B) where
  pub add_then : (q : Reader) (u : Store) (answer : Result B Refusal) → Added b m (Ok tt) t → Filled r t k answer q u → Filled r b (λ c. m c >> k c) answer q u
  add_then q u answer d g = record {
    file = g.file;
    memory = g.memory ∙ d.memory;
    came = λ c e v.
        came_then (m c) (λ _. k c) tt (rest_of r) (rest_of r) (rest_of q) (standing b) (standing t) (standing u) answer (d.came c (rest_of r) v) (g.came c e (v ∙ ap in_memory (sym d.memory)));
  }

  pub add_stop : (w : Refusal) → Added b m (Err w) t → Filled r b (λ c. m c >> k c) (Err w) r t
  unfolding after
  add_stop w d = record { file = refl; memory = d.memory; came = λ c e v. rw (d.came c (rest_of r) v) }

pub fill_end : {A : Type 0} (r : Reader) (b : Store) (a : A) → Filled r b (λ c. return a) (Ok a) r b
fill_end r b a = record { file = refl; memory = refl; came = λ c e u. refl }

-- a reading into a store, and then another
module _ {A B : Type 0} (r s : Reader) (b t : Store) (m : Setting → Reads A) (k : Setting → A → Reads B) where
  pub filled_then : (q : Reader) (u : Store) (a : A) (answer : Result B Refusal) → Filled r b m (Ok a) s t → Filled s t (λ c. k c a) answer q u → Filled r b (λ c. m c >>= k c) answer q u
  filled_then q u a answer d g = record {
    file = g.file ∙ d.file;
    memory = g.memory ∙ d.memory;
    came = λ c e v.
        came_then (m c) (k c) a (rest_of r) (rest_of s) (rest_of q) (standing b) (standing t) (standing u) answer (d.came c e v) (g.came c (e ∙ sym (same_size r s d.file)) (v ∙ ap in_memory (sym d.memory)));
  }

  pub filled_stop : (w : Refusal) → Filled r b m (Err w) s t → Filled r b (λ c. m c >>= k c) (Err w) s t
  unfolding after
  filled_stop w d = record { file = d.file; memory = d.memory; came = λ c e v. rw (d.came c e v) }

-- a reading that leaves the store alone
pub did_fills : {A : Type 0} (r s : Reader) (b : Store) (m : ℕ → Reads A) (answer : Result A Refusal) → Did r m answer s → Filled r b (λ c. m c.size) answer s b
did_fills r s b m answer d = record { file = d.file; memory = refl; came = λ c e u. ran_came (m c.size) answer (rw e d.ran) }
  where
    ran_came : {A : Type 0} (m : Reads A) (answer : Result A Refusal) → Ran m (rest_of r) answer (rest_of s) → Came m (rest_of r) (standing b) answer (rest_of s) (standing b)
    ran_came m (Ok a) h = h (standing b)
    ran_came m (Err w) h = h (standing b)
