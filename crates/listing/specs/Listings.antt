-- What a listing answers when pairs are added to it, and what it means then. A listing at `s` means the list `meaning s`,
-- and `holds s p` says whether the pair p fits there.
use Rattle.std.specs.Prelude.{◌≡◌, ℕ, ◌<◌, Bool, true, false, List, [], ◌∷◌, ◌++◌, length, take, pos, Some, None, Ok, Err, Option, Result, slice_index_or}
use Rattle.refusal.specs.declared.Reason.{Reason}
use Rattle.refusal.specs.Numbers.{number}
use Rattle.listing.specs.Pairs.{Pair, pair, good}

-- the number with which a pair is refused that is good or not, and fits or not
abbrev pub refusal : Bool → Bool → Option ℕ
refusal false fits = Some 21
refusal true false = Some 20
refusal true true = None

-- p was added at `s`, where it had fitted: the meaning at `t` has it at its end. What else `t` keeps of `s` is up to `leaves`.
pub record Added {S : Type 0} (meaning : S → List Pair) (holds : S → Pair → Bool) (leaves : S → Pair → S → Type 0) (s : S) (p : Pair) (t : S) : Type 0 where
  pub fitted : holds s p ≡ true
  pub means : meaning t ≡ meaning s ++ p ∷ []
  pub left : leaves s p t

-- pairs were added in order, from `s` to `t`
abbrev pub AddedAll : {S : Type 0} (meaning : S → List Pair) (holds : S → Pair → Bool) (leaves : S → Pair → S → Type 0) → S → List Pair → S → Type 0
AddedAll meaning holds leaves s [] t = t ≡ s
AddedAll {S} meaning holds leaves s (p ∷ ps) t = (m : S) × Added meaning holds leaves s p m × AddedAll meaning holds leaves m ps t

-- pairs were given in order up to the first refusal: all are in, or those before the one at `k`, which is refused
abbrev pub Gave : {S X : Type 0} (meaning : S → List Pair) (holds : S → Pair → Bool) (leaves : S → Pair → S → Type 0) → S → List Pair → S → Result X Reason → Type 0
Gave meaning holds leaves s ps t (Ok _) = AddedAll meaning holds leaves s ps t
Gave meaning holds leaves s ps t (Err e) =
    (k : ℕ) × (k < length ps) × AddedAll meaning holds leaves s (take k ps) t
    × (Some (number e) ≡ refusal (good (slice_index_or ps k (pair [] (pos 0)))) (holds t (slice_index_or ps k (pair [] (pos 0)))))

abbrev pub Fresh : {S : Type 0} → (S → List Pair) → S → Type 0
Fresh meaning s = meaning s ≡ []

-- two meanings are the same list, namely these pairs
abbrev pub BothMean : List Pair → List Pair → List Pair → Type 0
BothMean m m' ps = (m ≡ m') × (m ≡ ps)

-- two listings, of any two kinds, that are fresh and take the same pairs mean the same list: these pairs
abbrev pub Agree : {S T : Type 0} (m : S → List Pair) (h : S → Pair → Bool) (l : S → Pair → S → Type 0) (m' : T → List Pair) (h' : T → Pair → Bool) (l' : T → Pair → T → Type 0) → Type 0
Agree {S} {T} m h l m' h' l' =
    (a b : S) (a' b' : T) (ps : List Pair) → Fresh m a → Fresh m' a' → AddedAll m h l a ps b → AddedAll m' h' l' a' ps b'
    → BothMean (m b) (m' b') ps
