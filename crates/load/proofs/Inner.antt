-- Headers inside records.
use Rattle.std.proofs.Common.{◌≡◌, ℕ, ◌-◌, ◌%◌, Bool, true, false, not, ◌||◌, eqb, length, Ok, Err, refl, ◌∙◌}
use Rattle.refusal.specs.declared.Refusal.{Refusal}
use Rattle.refusal.specs.declared.Reason.TheVariants.{BadType, BadBits}
use Rattle.refusal.specs.declared.Part.{Part}
use Rattle.refusal.specs.declared.Part.TheVariants.{Record, Reference}
use Rattle.redbin.specs.Reading.{Reader as State, Read, Reads, got, refused, after, here, any_word, refuse_when, return}
use Rattle.load.specs.declared.reader.Reader.{Reader}
use Rattle.load.specs.Ran.{Did, state, size_of, rest_of}
use Rattle.load.specs.Inner.{inner_header}
use Rattle.load.specs.Holders.{context}
use Rattle.load.specs.Shared.{reference}
use Rattle.load.proofs.Fields.{place_at}

-- two tests of what was read, and then what is done with it
tests : {B : Type 0} (t b : Bool) (part : Part) (place h : ℕ) (k : ℕ → Reads B) (r : State) →
    after (refuse_when t BadType part place r) (λ _ s. after (refuse_when b BadBits part place s) (λ _. k h))
    ≡ after (after (refuse_when t BadType part place r) (λ _ s. after (refuse_when b BadBits part place s) (λ _. return h))) k
unfolding after refuse_when
tests true b part place h k r = refl
tests false true part place h k r = refl
tests false false part place h k r = refl

pub tested : {B : Type 0} (x : Read ℕ) (t b : ℕ → Bool) (part : Part) (place : ℕ) (k : ℕ → Reads B) →
    after x (λ h r. after (refuse_when (t h) BadType part place r) (λ _ s. after (refuse_when (b h) BadBits part place s) (λ _. k h)))
    ≡ after (after x (λ h r. after (refuse_when (t h) BadType part place r) (λ _ s. after (refuse_when (b h) BadBits part place s) (λ _. return h)))) k
unfolding after
tested (refused w) t b part place k = refl
tested (got h r) t b part place k = tests (t h) (b h) part place h k r

-- a context and a reference by these
context_by : (size : ℕ) (x : State) → context size x ≡ after (inner_header Record 134217742 402653198 size x) (λ h. return (eqb h 402653198))
unfolding after here
context_by size x = tested (any_word size Record x) (λ h. not (eqb (h % 256) 14)) (λ h. not (eqb h 134217742 || eqb h 402653198)) Record (size - length x.rest) (λ h. return (eqb h 402653198))

same_or : (b : Bool) → b ≡ (b || b)
same_or true = refl
same_or false = refl

reference_by : (size : ℕ) (x : State) → reference size x ≡ after (inner_header Reference 255 255 size x) (λ _. return (size - length x.rest))
unfolding after here
reference_by size x =
    tested (any_word size Reference x) (λ h. not (eqb (h % 256) 255)) (λ h. not (eqb h 255)) Reference (size - length x.rest) (λ _. return (size - length x.rest))
    ∙ (λ i. after (after (any_word size Reference x) (λ h r. after (refuse_when (not (eqb (h % 256) 255)) BadType Reference (size - length x.rest) r) (λ _ s. after (refuse_when (not (same_or (eqb h 255) i)) BadBits Reference (size - length x.rest) s) (λ _. return h)))) (λ _. return (size - length x.rest)))

module _ (r s : Reader) where
  pub context_stop : (w : Refusal) → Did r (inner_header Record 134217742 402653198) (Err w) s → Did r context (Err w) s
  unfolding after
  context_stop w d = record { file = d.file; ran = λ e. context_by (size_of r) (state (rest_of r) e) ∙ rw (d.ran e) }

  pub context_got : (h : ℕ) → Did r (inner_header Record 134217742 402653198) (Ok h) s → Did r context (Ok (eqb h 402653198)) s
  unfolding after
  context_got h d = record { file = d.file; ran = λ e. context_by (size_of r) (state (rest_of r) e) ∙ rw (d.ran e) }

  pub reference_stop : (w : Refusal) → Did r (inner_header Reference 255 255) (Err w) s → Did r reference (Err w) s
  unfolding after
  reference_stop w d = record { file = d.file; ran = λ e. reference_by (size_of r) (state (rest_of r) e) ∙ rw (d.ran e) }

  pub reference_got : (h : ℕ) → Did r (inner_header Reference 255 255) (Ok h) s → Did r reference (Ok r.place) s
  unfolding after
  reference_got h d = record { file = d.file; ran = λ e. reference_by (size_of r) (state (rest_of r) e) ∙ rw (d.ran e, place_at r.file.now r.place r.within) }
