-- What a text's record comes to.
use Rattle.std.proofs.Common.{◌≡◌, ℕ, ◌*◌, List, Ok, Err, Result, ap, ◌∙◌, subst, mul_comm}
use Rattle.refusal.specs.declared.Refusal.{Refusal}
use Rattle.refusal.specs.declared.Part.TheVariants.{Record}
use Rattle.refusal.specs.declared.Reason.TheVariants.{Large, BadContent}
use Rattle.steps.specs.declared.parts.TextKind.{TextKind}
use Rattle.steps.specs.Steps.{Tag, text}
use Rattle.redbin.specs.Bytes.{fill}
use Rattle.redbin.specs.Reading.{Setting, Reads, word, below, run, add, add_text, ◌>>=◌}
use Rattle.document.specs.declared.store.Store.{Store}
use Rattle.load.specs.declared.reader.Reader.{Reader}
use Rattle.load.specs.Ran.{Did}
use Rattle.load.specs.Filled.{Added, Filled}
use Rattle.load.proofs.Filling.{field_stop, field_add, field_fill}

-- its fields
abbrev pub length_of : ℕ → Reads ℕ
length_of size = below size Record 4 16777216 Large

abbrev pub points_of : ℕ → ℕ → ℕ → Reads (List ℕ)
points_of unit n size = run size Record unit 1114112 BadContent n

abbrev pub blanks_of : ℕ → ℕ → ℕ → Reads (List ℕ)
blanks_of unit n size = run size Record 1 1 BadContent (fill 4 (unit * n))

-- the zeros, as many as are counted
blanks_by : (r s : Reader) (unit n size k : ℕ) (answer : Result (List ℕ) Refusal) → k ≡ fill 4 size → size ≡ n * unit → Did r (λ z. run z Record 1 1 BadContent k) answer s → Did r (blanks_of unit n) answer s
blanks_by r s unit n size k answer p q d =
    let e : k ≡ fill 4 (unit * n) = p ∙ ap (fill 4) (q ∙ mul_comm n unit) in
    subst (λ (k : ℕ). Did r (λ z. run z Record 1 1 BadContent k) answer s) e d

module _ (r : Reader) (b : Store) (place : ℕ) (l : Tag) (kind : TextKind) (unit : ℕ) where
  abbrev points_then : ℕ → ℕ → Setting → List ℕ → Reads (Unit {0})
  points_then head n c ps = blanks_of unit n c.size >>= λ zs. add c place l (text kind head ps)

  abbrev length_then : ℕ → Setting → ℕ → Reads (Unit {0})
  length_then head c n = points_of unit n c.size >>= points_then head n c

  abbrev head_then : Setting → ℕ → Reads (Unit {0})
  head_then c head = length_of c.size >>= length_then head c

  abbrev Text : Result (Unit {0}) Refusal → Reader → Store → Type 0
  Text answer q t = Filled r b (λ c. add_text c place l kind unit) answer q t

  pub head_stops : (q : Reader) (w : Refusal) → Did r (λ n. word n Record) (Err w) q → Text (Err w) q b
  unfolding add_text
  head_stops q w d = field_stop r q b (λ n. word n Record) head_then w d

  module _ (r₁ : Reader) (head : ℕ) (d₁ : Did r (λ n. word n Record) (Ok head) r₁) where
    past_head : (answer : Result (Unit {0}) Refusal) (q : Reader) (t : Store) → Filled r₁ b (λ c. head_then c head) answer q t → Text answer q t
    unfolding add_text
    past_head answer q t g = field_fill r r₁ b (λ n. word n Record) head_then q t head answer d₁ g

    pub length_stops : (q : Reader) (w : Refusal) → Did r₁ length_of (Err w) q → Text (Err w) q b
    length_stops q w d = past_head _ q b (field_stop r₁ q b length_of (length_then head) w d)

    module _ (r₂ : Reader) (n : ℕ) (d₂ : Did r₁ length_of (Ok n) r₂) where
      past_length : (answer : Result (Unit {0}) Refusal) (q : Reader) (t : Store) → Filled r₂ b (λ c. length_then head c n) answer q t → Text answer q t
      past_length answer q t g = past_head answer q t (field_fill r₁ r₂ b length_of (length_then head) q t n answer d₂ g)

      pub points_stop : (q : Reader) (w : Refusal) → Did r₂ (points_of unit n) (Err w) q → Text (Err w) q b
      points_stop q w d = past_length _ q b (field_stop r₂ q b (points_of unit n) (points_then head n) w d)

      module _ (r₃ : Reader) (ps : List ℕ) (d₃ : Did r₂ (points_of unit n) (Ok ps) r₃) (size k : ℕ) (filled : k ≡ fill 4 size) (long : size ≡ n * unit) where
        past_points : (answer : Result (Unit {0}) Refusal) (q : Reader) (t : Store) → Filled r₃ b (λ c. points_then head n c ps) answer q t → Text answer q t
        past_points answer q t g = past_length answer q t (field_fill r₂ r₃ b (points_of unit n) (points_then head n) q t ps answer d₃ g)

        pub blanks_stop : (q : Reader) (w : Refusal) → Did r₃ (λ z. run z Record 1 1 BadContent k) (Err w) q → Text (Err w) q b
        blanks_stop q w d = past_points _ q b (field_stop r₃ q b (blanks_of unit n) (λ c _. add c place l (text kind head ps)) w (blanks_by r₃ q unit n size k _ filled long d))

        pub text_added : (q : Reader) (t : Store) (zs : List ℕ) (answer : Result (Unit {0}) Refusal) → Did r₃ (λ z. run z Record 1 1 BadContent k) (Ok zs) q → Added b (λ c. add c place l (text kind head ps)) answer t → Text answer q t
        text_added q t zs answer d g = past_points answer q t (field_add r₃ q b (blanks_of unit n) (λ c _. add c place l (text kind head ps)) t zs answer (blanks_by r₃ q unit n size k _ filled long d) g)
