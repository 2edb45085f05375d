-- Well-formed text, by its first character.
use Rattle.std.proofs.Common.{◌≡◌, ℕ, ◌≤◌, true, false, List, [], ◌∷◌, length, get_or, drop, arith}
use Rattle.steps.specs.Utf8.{utf8, one, two, three, four}

pub at_one : (s : List ℕ) → 1 ≤ length s → one (get_or s 0 0) ≡ true → utf8 s ≡ utf8 (drop 1 s)
at_one [] n h = absurd (omega arith)
at_one (a ∷ []) n h = h
at_one (a ∷ b ∷ []) n h = rw h
at_one (a ∷ b ∷ c ∷ []) n h = rw h
at_one (a ∷ b ∷ c ∷ d ∷ rest) n h = rw h

pub at_two : (s : List ℕ) → 2 ≤ length s → one (get_or s 0 0) ≡ false → two (get_or s 0 0) (get_or s 1 0) ≡ true → utf8 s ≡ utf8 (drop 2 s)
at_two [] n h₁ h = absurd (omega arith)
at_two (a ∷ []) n h₁ h = absurd (omega arith)
at_two (a ∷ b ∷ []) n h₁ h = rw (h₁, h)
at_two (a ∷ b ∷ c ∷ []) n h₁ h = rw (h₁, h)
at_two (a ∷ b ∷ c ∷ d ∷ rest) n h₁ h = rw (h₁, h)

pub at_three : (s : List ℕ) → 3 ≤ length s → one (get_or s 0 0) ≡ false → two (get_or s 0 0) (get_or s 1 0) ≡ false → three (get_or s 0 0) (get_or s 1 0) (get_or s 2 0) ≡ true → utf8 s ≡ utf8 (drop 3 s)
at_three [] n h₁ h₂ h = absurd (omega arith)
at_three (a ∷ []) n h₁ h₂ h = absurd (omega arith)
at_three (a ∷ b ∷ []) n h₁ h₂ h = absurd (omega arith)
at_three (a ∷ b ∷ c ∷ []) n h₁ h₂ h = rw (h₁, h₂, h)
at_three (a ∷ b ∷ c ∷ d ∷ rest) n h₁ h₂ h = rw (h₁, h₂, h)

pub at_four : (s : List ℕ) → 4 ≤ length s → one (get_or s 0 0) ≡ false → two (get_or s 0 0) (get_or s 1 0) ≡ false → three (get_or s 0 0) (get_or s 1 0) (get_or s 2 0) ≡ false → four (get_or s 0 0) (get_or s 1 0) (get_or s 2 0) (get_or s 3 0) ≡ true → utf8 s ≡ utf8 (drop 4 s)
at_four [] n h₁ h₂ h₃ h = absurd (omega arith)
at_four (a ∷ []) n h₁ h₂ h₃ h = absurd (omega arith)
at_four (a ∷ b ∷ []) n h₁ h₂ h₃ h = absurd (omega arith)
at_four (a ∷ b ∷ c ∷ []) n h₁ h₂ h₃ h = absurd (omega arith)
at_four (a ∷ b ∷ c ∷ d ∷ rest) n h₁ h₂ h₃ h = rw (h₁, h₂, h₃, h)
