-- Values that hold no others, and the headers of all.
use Rattle.std.proofs.Common.{◌≡◌, ℕ, zero, suc, ◌-◌, ◌<◌, Ok, Err, Result, sym, refl, ◌∙◌, subst}
use Rattle.refusal.specs.declared.Refusal.{Refusal}
use Rattle.refusal.specs.declared.Reason.TheVariants.{TooDeep}
use Rattle.refusal.specs.declared.Part.TheVariants.{Record}
use Rattle.steps.specs.Steps.{Name, Tag}
use Rattle.document.specs.declared.store.Store.{Store}
use Rattle.document.specs.Standing.{standing}
use Rattle.redbin.specs.declared.form.Form.{Form}
use Rattle.redbin.specs.Reading.{Reader as State, Setting, Reads, Heading, refused, because, after, return, content, heading, value}
use Rattle.load.specs.declared.reader.Reader.{Reader}
use Rattle.load.specs.Ran.{DidIn, state, rest_of}
use Rattle.load.specs.declared.filler.Filler.{Filler}
use Rattle.load.specs.Filled.{Added, Filled, Fills, with_payload}
use Rattle.load_file.specs.declared.scope.Scope.{Scope}
use Rattle.load_file.specs.Scopes.{within}
use Rattle.load_file.proofs.Binds.{labelled, value_in, value_deep}
use Rattle.load.proofs.Then.{came_by}
use Rattle.load_file.proofs.Chains.{same_size}

-- a definition that comes to another
pub filled_by : {A : Type 0} (r s : Reader) (b t : Store) (m m' : Setting → Reads A) (answer : Result A Refusal) → ((c : Setting) (q : State) → m c q ≡ m' c q) → Filled r b m' answer s t → Filled r b m answer s t
filled_by r s b t m m' answer h g = record {
  file = g.file;
  memory = g.memory;
  came = λ c e u. came_by (m c) (m' c) (rest_of r) (rest_of r) (rest_of s) (standing b) (standing b) (standing t) answer (h c (state (rest_of r) (standing b))) (g.came c e u);
}

-- a call that reads no bytes
pub added_fills : (r : Reader) (b t : Store) (m : Setting → Reads (Unit {0})) (answer : Result (Unit {0}) Refusal) → Added b m answer t → Filled r b m answer r t
added_fills r b t m answer d = record { file = refl; memory = d.memory; came = λ c e u. d.came c (rest_of r) u }

-- a value that holds no others is read alike whatever reads the values in it
pub leaf_paid : (k : Scope) (n place : ℕ) (l : Tag) (f g : Form) (a z : Filler) (answer : Result (Unit {0}) Refusal) → f ≡ g
    → ((one : Name → Reads (Unit {0})) → Fills (λ c. content (with_payload k.payload c) one place l g) a answer z) → Fills (λ c. content (within k c) (value (within k c) n) place l f) a answer z
leaf_paid k n place l f g a z answer e h =
    let x = h (λ _. return tt) in
    subst (λ (f : Form). Fills (λ c. content (within k c) (value (within k c) n) place l f) a answer z) (sym e)
    (record { filled = record { file = x.filled.file; memory = x.filled.memory; came = λ c q u. (h (value (within k c) n)).filled.came (within k c) q u }; lent = x.lent })

-- so it is where the size of the payload makes no difference
pub leaf_fills : (k : Scope) (n place : ℕ) (l : Tag) (f g : Form) (a z : Filler) (answer : Result (Unit {0}) Refusal) → f ≡ g
    → ((one : Name → Reads (Unit {0})) → Fills (λ c. content c one place l g) a answer z) → Fills (λ c. content (within k c) (value (within k c) n) place l f) a answer z
leaf_fills k n place l f g a z answer e h =
    leaf_paid k n place l f g a z answer e (λ one. let x = h one in record { filled = record { file = x.filled.file; memory = x.filled.memory; came = λ c q u. x.filled.came (with_payload k.payload c) q u }; lent = x.lent })

-- ---- a value's header

pub value_refused : (c : Setting) (d : ℕ) (n : Name) (q : State) (w : Refusal) → heading c q ≡ refused w → value c d n q ≡ refused w
unfolding value after
value_refused c zero n q w h = rw h
value_refused c (suc d) n q w h = rw h

module _ (k : Scope) (d : ℕ) (n : Name) (r s : Reader) (b : Store) where
  pub heading_stop : (w : Refusal) → DidIn r heading (Err w) s → Filled r b (λ c. value (within k c) d n) (Err w) s b
  heading_stop w g = record { file = g.file; memory = refl; came = λ c e u. value_refused (within k c) d n _ w (g.ran (within k c) e (standing b)) }

  pub heading_deep : (h : Heading) → d ≡ 0 → DidIn r heading (Ok h) s → Filled r b (λ c. value (within k c) d n) (Err (because TooDeep Record h.place)) s b
  unfolding after
  heading_deep h z g = record {
    file = g.file;
    memory = refl;
    came = λ c e u. value_deep (within k c) d n (state (rest_of r) (standing b)) z ∙ rw (g.ran (within k c) e (standing b));
  }

  pub heading_then : (h : Heading) (q : Reader) (t : Store) (answer : Result (Unit {0}) Refusal) → 0 < d → DidIn r heading (Ok h) s
      → Filled s b (λ c. content (within k c) (value (within k c) (d - 1)) h.place (labelled h n) h.form) answer q t → Filled r b (λ c. value (within k c) d n) answer q t
  unfolding after
  heading_then h q t answer lt g f = record {
    file = f.file ∙ g.file;
    memory = f.memory;
    came = λ c e u.
        came_by (value (within k c) d n) (content (within k c) (value (within k c) (d - 1)) h.place (labelled h n) h.form) (rest_of r) (rest_of s) (rest_of q) (standing b) (standing b) (standing t) answer
        (value_in (within k c) d n (state (rest_of r) (standing b)) lt ∙ rw (g.ran (within k c) e (standing b))) (f.came c (e ∙ sym (same_size r s g.file)) u);
  }
