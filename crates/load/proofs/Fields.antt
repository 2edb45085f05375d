-- What fields come to, by the place in the file.
use Rattle.std.proofs.Common.{◌≡◌, ℕ, ◌+◌, ◌-◌, ◌*◌, ◌<◌, ◌≤◌, Bool, true, false, cond, ltb, List, [], ◌∷◌, Ok, Err, refl, ◌∙◌, length, get_or, take, drop, arith, length-drop}
use Rattle.std.specs.Int.{w32, w64, from_le_bytes}
use Rattle.std.proofs.lemmas.Bool.Decides.{nat_tests}
use Rattle.refusal.specs.declared.Refusal.{Refusal}
use Rattle.refusal.specs.declared.Part.{Part}
use Rattle.refusal.specs.declared.Reason.{Reason}
use Rattle.redbin.specs.Bytes.{number}
use Rattle.redbin.specs.Reading.{Reader as State, Reads, got, refused, because, after, enough, skip, below}
use Rattle.load.specs.declared.reader.Reader.{Reader}
use Rattle.load.specs.Ran.{Did, state, size_of, rest_of, piece}

-- the number of the first four bytes, where those that are missing count as 0
pub number_four : (bytes : List ℕ) → number (take 4 bytes) ≡ get_or bytes 0 0 + get_or bytes 1 0 * 256 + get_or bytes 2 0 * 65536 + get_or bytes 3 0 * 16777216
unfolding number
number_four [] = omega arith
number_four (a ∷ []) = omega arith
number_four (a ∷ b ∷ []) = omega arith
number_four (a ∷ b ∷ c ∷ []) = omega arith
number_four (a ∷ b ∷ c ∷ d ∷ bytes) = omega arith

-- four bytes and eight bytes as an array
pub le_four : (bytes : List ℕ) → length bytes ≡ 4 → from_le_bytes w32 bytes ≡ number bytes
unfolding number
le_four (a ∷ b ∷ c ∷ d ∷ []) h = omega arith
le_four [] h = absurd (omega arith)
le_four (a ∷ []) h = absurd (omega arith)
le_four (a ∷ b ∷ []) h = absurd (omega arith)
le_four (a ∷ b ∷ c ∷ []) h = absurd (omega arith)
le_four (a ∷ b ∷ c ∷ d ∷ e ∷ bytes) h = absurd (omega arith)

pub le_eight : (bytes : List ℕ) → length bytes ≡ 8 → from_le_bytes w64 bytes ≡ number bytes
unfolding number
le_eight (a ∷ b ∷ c ∷ d ∷ a₂ ∷ b₂ ∷ c₂ ∷ d₂ ∷ []) h = omega arith
le_eight [] h = absurd (omega arith)
le_eight (a ∷ []) h = absurd (omega arith)
le_eight (a ∷ b ∷ []) h = absurd (omega arith)
le_eight (a ∷ b ∷ c ∷ []) h = absurd (omega arith)
le_eight (a ∷ b ∷ c ∷ d ∷ []) h = absurd (omega arith)
le_eight (a ∷ b ∷ c ∷ d ∷ a₂ ∷ []) h = absurd (omega arith)
le_eight (a ∷ b ∷ c ∷ d ∷ a₂ ∷ b₂ ∷ []) h = absurd (omega arith)
le_eight (a ∷ b ∷ c ∷ d ∷ a₂ ∷ b₂ ∷ c₂ ∷ []) h = absurd (omega arith)
le_eight (a ∷ b ∷ c ∷ d ∷ a₂ ∷ b₂ ∷ c₂ ∷ d₂ ∷ e ∷ bytes) h = absurd (omega arith)

module _ (file : List ℕ) (p : ℕ) (within : p ≤ length file) where
  pub left_at : length (drop p file) ≡ length file - p
  left_at = length-drop p file

  pub place_at : length file - length (drop p file) ≡ p
  place_at = rw left_at (omega arith)

-- what is done with the bytes, unless there are too few
pub by_piece : {A : Type 0} (few : Bool) (n : ℕ) (x : State) (w : Refusal) (k : List ℕ → Reads A) → cond few (refused w) (k (take n x.rest) (record { rest = drop n x.rest; steps = x.steps })) ≡ after (after (cond few (refused w) (got (tt {0}) x)) (λ _. skip n)) k
unfolding after skip
by_piece true n x w k = refl
by_piece false n x w k = refl

-- a number is read from its bytes
module _ (r s : Reader) (part : Part) (unit limit : ℕ) (why : Reason) where
  number_read : (x : State) → below (size_of r) part unit limit why x ≡ after (piece (size_of r) part unit x) (λ bytes y. cond (ltb (number bytes) limit) (got (number bytes) y) (refused (because why part (size_of r - length x.rest))))
  unfolding below after enough skip
  number_read x = by_piece (ltb (length x.rest) unit) unit x _ (λ bytes y. cond (ltb (number bytes) limit) (got (number bytes) y) (refused (because why part (size_of r - length x.rest))))

  pub number_short : (w : Refusal) → Did r (λ size. piece size part unit) (Err w) s → Did r (λ size. below size part unit limit why) (Err w) s
  unfolding after
  number_short w d = record { file = d.file; ran = λ e. number_read (state (rest_of r) e) ∙ rw (d.ran e) }

  module _ (bytes : List ℕ) (d : Did r (λ size. piece size part unit) (Ok bytes) s) where
    -- the reader `q` may stand where it will: a refusal says nothing of it
    pub number_large : (q : Reader) → q.file ≡ r.file → limit ≤ number bytes → Did r (λ size. below size part unit limit why) (Err (because why part r.place)) q
    unfolding after
    number_large q f h =
        let t : ltb (number bytes) limit ≡ false = grind (arith, nat_tests) in
        record { file = f; ran = λ e. number_read (state (rest_of r) e) ∙ rw (d.ran e, t, place_at r.file.now r.place r.within) }

    pub number_got : number bytes < limit → Did r (λ size. below size part unit limit why) (Ok (number bytes)) s
    unfolding after
    number_got h =
        let t : ltb (number bytes) limit ≡ true = grind (arith, nat_tests) in
        record { file = d.file; ran = λ e. number_read (state (rest_of r) e) ∙ rw (d.ran e, t) }
