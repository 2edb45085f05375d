-- What runs of numbers come to.
use Rattle.std.proofs.Common.{◌≡◌, ℕ, zero, suc, ◌+◌, ◌-◌, ◌*◌, ◌<◌, ◌≤◌, Bool, true, false, cond, ltb, List, [], ◌∷◌, ◌++◌, length, take, drop, Some, None, Option, Ok, Err, refl, ap, ◌∙◌, suc-mul, add_comm, zero-mul, arith, length-drop, length-take, take-take, drop-drop}
use Rattle.std.proofs.lemmas.List.{drop-take}
use Rattle.std.proofs.lemmas.Bool.Decides.{nat_tests}
use Rattle.refusal.specs.declared.Refusal.{Refusal}
use Rattle.refusal.specs.declared.Part.{Part}
use Rattle.refusal.specs.declared.Reason.{Reason}
use Rattle.steps.specs.Steps.{Steps}
use Rattle.redbin.specs.Bytes.{number}
use Rattle.redbin.specs.Reading.{Reader as State, Reads, got, refused, because, after, enough, skip, below, series, run}
use Rattle.load.specs.declared.reader.Reader.{Reader}
use Rattle.load.specs.Ran.{Did, state, size_of, rest_of, piece}
use Rattle.load.proofs.Fields.{place_at}
use Rattle.load.specs.Runs.{entry, entries, Sought}

pub entry_first : (unit : ℕ) (bytes : List ℕ) → entry unit 0 bytes ≡ number (take unit bytes)
entry_first unit bytes = rw (zero-mul unit)

pub entry_next : (unit i : ℕ) (bytes : List ℕ) → entry unit (suc i) bytes ≡ entry unit i (drop unit bytes)
entry_next unit i bytes = rw (drop-drop (i * unit) unit bytes, suc-mul i unit, add_comm (i * unit) unit)

module _ (size : ℕ) (part : Part) (unit limit : ℕ) (why : Reason) (e : Steps) where
  below_first : (bytes : List ℕ) → unit ≤ length bytes → number (take unit bytes) < limit → below size part unit limit why (state bytes e) ≡ got (number (take unit bytes)) (state (drop unit bytes) e)
  unfolding below
  below_first bytes h l =
      let t : ltb (length bytes) unit ≡ false = grind (arith, nat_tests) in
      let u : ltb (number (take unit bytes)) limit ≡ true = grind (arith, nat_tests) in
      rw (t, u)

  bad_first : (bytes : List ℕ) → unit ≤ length bytes → limit ≤ number (take unit bytes) → below size part unit limit why (state bytes e) ≡ refused (because why part (size - length bytes))
  unfolding below
  bad_first bytes h l =
      let t : ltb (length bytes) unit ≡ false = grind (arith, nat_tests) in
      let u : ltb (number (take unit bytes)) limit ≡ false = grind (arith, nat_tests) in
      rw (t, u)

  pub series_all : (n : ℕ) (bytes : List ℕ) → n * unit ≤ length bytes → ((i : ℕ) → i < n → entry unit i bytes < limit) →
      series size part unit limit why n (state bytes e) ≡ got (entries unit n bytes) (state (drop (n * unit) bytes) e)
  unfolding series entries after
  series_all zero bytes h all = rw (zero-mul unit)
  series_all (suc n) bytes h all =
      let h' : n * unit + unit ≤ length bytes = rw (suc-mul n unit) at h in
      let l : length (drop unit bytes) ≡ length bytes - unit = length-drop unit bytes in
      let first : number (take unit bytes) < limit = rw (entry_first unit bytes) at (all 0 (omega arith)) in
      let rest = series_all n (drop unit bytes) (rw l (omega arith)) (λ i lt. rw (entry_next unit i bytes) at (all (suc i) (omega arith))) in
      rw (below_first bytes (omega arith) first, rest, drop-drop (n * unit) unit bytes, suc-mul n unit, add_comm (n * unit) unit)

  pub series_bad : (n k : ℕ) (bytes : List ℕ) → length bytes ≤ size → n * unit ≤ length bytes → k < n → limit ≤ entry unit k bytes → ((i : ℕ) → i < k → entry unit i bytes < limit) →
      series size part unit limit why n (state bytes e) ≡ refused (because why part (size - length bytes + k * unit))
  unfolding series after
  series_bad zero k bytes w h lt bad all = absurd (omega arith)
  series_bad (suc n) zero bytes w h lt bad all =
      let h' : n * unit + unit ≤ length bytes = rw (suc-mul n unit) at h in
      let z : size - length bytes + 0 * unit ≡ size - length bytes = rw (zero-mul unit) (omega arith) in
      rw (bad_first bytes (omega arith) (rw (entry_first unit bytes) at bad), z)
  series_bad (suc n) (suc k) bytes w h lt bad all =
      let h' : n * unit + unit ≤ length bytes = rw (suc-mul n unit) at h in
      let l : length (drop unit bytes) ≡ length bytes - unit = length-drop unit bytes in
      let first : number (take unit bytes) < limit = rw (entry_first unit bytes) at (all 0 (omega arith)) in
      let rest = series_bad n k (drop unit bytes) (rw l (omega arith)) (rw l (omega arith)) (omega arith) (rw (entry_next unit k bytes) at bad) (λ i i<. rw (entry_next unit i bytes) at (all (suc i) (omega arith))) in
      let p : size - length (drop unit bytes) + k * unit ≡ size - length bytes + suc k * unit = rw (l, suc-mul k unit) (omega arith) in
      rw (below_first bytes (omega arith) first, rest, p)

-- only the bytes of a run matter for it
entries_take : (unit n : ℕ) (bytes : List ℕ) → entries unit n (take (n * unit) bytes) ≡ entries unit n bytes
unfolding entries
entries_take unit zero bytes = refl
entries_take unit (suc n) bytes =
    let s : suc n * unit ≡ unit + n * unit = suc-mul n unit ∙ add_comm (n * unit) unit in
    rw (s, take-take unit (unit + n * unit) bytes (omega arith), drop-take unit (n * unit) bytes, entries_take unit n (drop unit bytes))

entry_take : (unit n i : ℕ) (bytes : List ℕ) → i < n → entry unit i (take (n * unit) bytes) ≡ entry unit i bytes
entry_take unit zero i bytes lt = absurd (omega arith)
entry_take unit (suc n) zero bytes lt = rw (entry_first unit bytes, entry_first unit (take (suc n * unit) bytes), take-take unit (suc n * unit) bytes (omega (arith, suc-mul n unit)))
entry_take unit (suc n) (suc i) bytes lt =
    let s : suc n * unit ≡ unit + n * unit = suc-mul n unit ∙ add_comm (n * unit) unit in
    rw (entry_next unit i bytes, entry_next unit i (take (suc n * unit) bytes), s, drop-take unit (n * unit) bytes) (entry_take unit n i (drop unit bytes) (omega arith))

-- what is sought in the bytes of a run is sought in what is left of the file
sought_in : (unit limit n : ℕ) (bytes : List ℕ) (o : Option ℕ) → Sought unit limit n (take (n * unit) bytes) o → Sought unit limit n bytes o
sought_in unit limit n bytes None h = λ i lt. let g = h i lt in rw (entry_take unit n i bytes lt) at g
sought_in unit limit n bytes (Some k) h =
    (h.0, (let g = h.1 in rw (entry_take unit n k bytes h.0) at g), λ i lt. let g = h.2 i lt in rw (entry_take unit n i bytes (omega (arith, h.0))) at g)

read_twice : {A : Type 0} (few : Bool) (n : ℕ) (x : State) (w : Refusal) (m : Reads A) → after (cond few (refused w) (got (tt {0}) x)) (λ _. m) ≡ after (after (cond few (refused w) (got (tt {0}) x)) (λ _. skip n)) (λ _ _. m x)
unfolding after skip
read_twice true n x w m = refl
read_twice false n x w m = refl

-- a run is read from its bytes
module _ (r s : Reader) (part : Part) (unit limit : ℕ) (why : Reason) (n : ℕ) where
  run_read : (x : State) → run (size_of r) part unit limit why n x ≡ after (piece (size_of r) part (n * unit) x) (λ _ _. series (size_of r) part unit limit why n x)
  unfolding run enough
  run_read x = read_twice (ltb (length x.rest) (n * unit)) (n * unit) x _ (series (size_of r) part unit limit why n)

  pub run_short : (w : Refusal) → Did r (λ size. piece size part (n * unit)) (Err w) s → Did r (λ size. run size part unit limit why n) (Err w) s
  unfolding after
  run_short w d = record { file = d.file; ran = λ e. run_read (state (rest_of r) e) ∙ rw (d.ran e) }

  module _ (bytes : List ℕ) (d : Did r (λ size. piece size part (n * unit)) (Ok bytes) s) (is : bytes ≡ take (n * unit) (rest_of r)) (long : length bytes ≡ n * unit) where
    fits : n * unit ≤ length (rest_of r)
    fits = omega (arith, long, ap length is, length-take {A = ℕ})

    begins : (e : Steps) → run (size_of r) part unit limit why n (state (rest_of r) e) ≡ series (size_of r) part unit limit why n (state (rest_of r) e)
    unfolding after
    begins e = run_read (state (rest_of r) e) ∙ rw (d.ran e)

    pub run_got : s.place ≡ r.place + n * unit → Sought unit limit n bytes None → Did r (λ size. run size part unit limit why n) (Ok (entries unit n bytes)) s
    run_got moved h =
        let all : Sought unit limit n (rest_of r) None = sought_in unit limit n (rest_of r) None (rw is at h) in
        record { file = d.file; ran = λ e. begins e ∙ series_all (size_of r) part unit limit why e n (rest_of r) fits all ∙ rw (is, entries_take unit n (rest_of r), d.file, moved, drop-drop (n * unit) r.place r.file.now) }

    -- the reader `q` may stand where it will: a refusal says nothing of it
    pub run_bad : (q : Reader) → q.file ≡ r.file → (k : ℕ) → Sought unit limit n bytes (Some k) → Did r (λ size. run size part unit limit why n) (Err (because why part (r.place + k * unit))) q
    run_bad q f k h =
        let g : Sought unit limit n (rest_of r) (Some k) = sought_in unit limit n (rest_of r) (Some k) (rw is at h) in
        let p = place_at r.file.now r.place r.within in
        record { file = f; ran = λ e. begins e ∙ series_bad (size_of r) part unit limit why e n k (rest_of r) (omega (arith, length-drop r.place r.file.now)) fits g.0 g.1 g.2 ∙ rw p }

-- one number more
pub entries_more : (unit n : ℕ) (bytes : List ℕ) → entries unit (suc n) bytes ≡ entries unit n bytes ++ (entry unit n bytes ∷ [])
unfolding entries
entries_more unit zero bytes = rw (entry_first unit bytes)
entries_more unit (suc n) bytes = rw (entry_next unit n bytes) (ap (λ (xs : List ℕ). number (take unit bytes) ∷ xs) (entries_more unit n (drop unit bytes)))

pub length_entries : (unit n : ℕ) (bytes : List ℕ) → length (entries unit n bytes) ≡ n
unfolding entries
length_entries unit zero bytes = refl
length_entries unit (suc n) bytes = ap suc (length_entries unit n (drop unit bytes))
