-- One reading after another.
use Rattle.std.proofs.Common.{◌≡◌, ℕ, List, length, Ok, Err, Result, sym, ap, ◌∙◌}
use Rattle.refusal.specs.declared.Refusal.{Refusal}
use Rattle.steps.specs.Steps.{Steps}
use Rattle.redbin.specs.Reading.{Reads, got, after, here, ◌>>=◌}
use Rattle.load.specs.declared.reader.Reader.{Reader}
use Rattle.load.proofs.Fields.{place_at}
use Rattle.load.specs.Filled.{Came}
use Rattle.load.specs.Ran.{Ran, Did, state, size_of, rest_of}

-- a reading that comes to another
pub ran_by : {A : Type 0} (m m' : Reads A) (x y z : List ℕ) (answer : Result A Refusal) → ((e : Steps) → m (state x e) ≡ m' (state y e)) → Ran m' y answer z → Ran m x answer z
ran_by m m' x y z (Ok b) h g = λ e. h e ∙ g e
ran_by m m' x y z (Err w) h g = λ e. h e ∙ g e

-- a reader of the same file
module _ {A : Type 0} (r s t : Reader) (m : ℕ → Reads A) (answer : Result A Refusal) where
  pub ran_at : Did s m answer t → s.file ≡ r.file → Ran (m (size_of r)) (rest_of s) answer (rest_of t)
  ran_at d h =
      let e : size_of s ≡ size_of r = ap (λ (x : _). length x.now) h in
      rw e at d.ran

pub here_at : (r s : Reader) (e : Steps) → s.file ≡ r.file → here (size_of r) (state (rest_of s) e) ≡ got s.place (state (rest_of s) e)
unfolding here
here_at r s e h =
    let k : size_of r ≡ size_of s = ap (λ (x : _). length x.now) (sym h) in
    rw (k, place_at s.file.now s.place s.within)

-- a field, and what is done with it
pub came_then : {A B : Type 0} (m : Reads A) (k : A → Reads B) (a : A) (x y z : List ℕ) (d e f : Steps) (answer : Result B Refusal) → m (state x d) ≡ got a (state y e) → Came (k a) y e answer z f → Came (m >>= k) x d answer z f
unfolding after
came_then m k a x y z d e f (Ok b) h g = rw h g
came_then m k a x y z d e f (Err w) h g = rw h g

-- a reading that comes to another
pub came_by : {A : Type 0} (m m' : Reads A) (x y z : List ℕ) (d e f : Steps) (answer : Result A Refusal) → m (state x d) ≡ m' (state y e) → Came m' y e answer z f → Came m x d answer z f
came_by m m' x y z d e f (Ok b) h g = h ∙ g
came_by m m' x y z d e f (Err w) h g = h ∙ g
