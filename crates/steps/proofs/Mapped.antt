-- Values with their codepoints given in another way.
use Rattle.std.proofs.Common.{◌≡◌, ℕ, List, length, refl}
use denote.Bor.{Bor}
use Rattle.steps.specs.declared.parts.Span.{Span}
use Rattle.steps.specs.declared.parts.Content.{Content as Value}
use Rattle.steps.specs.declared.parts.Content.TheVariants.{Nothing, Logic, Char, Integer, Float, Text}
use Rattle.steps.specs.declared.parts.Sort.{Sort}
use Rattle.steps.specs.declared.parts.Sort.TheVariants.{Put}
use Rattle.steps.specs.Given.{content, mapped}
use Rattle.steps.specs.Steps.{put}
use Rattle.steps.specs.Build.{sort_of, begun_with}

-- the part where codepoints come to stand behind so many
abbrev pub part_behind : ℕ → Bor (List ℕ) → Span
part_behind n ps = record { start = n; len = length ps.now }

pub sort_mapped : (n : ℕ) (v : Value (Bor (List ℕ))) → ◌≡◌ {A = Sort} (Put (mapped (part_behind n) v)) (sort_of n (put (content v)))
sort_mapped n Nothing = refl
sort_mapped n (Logic b) = refl
sort_mapped n (Char c) = refl
sort_mapped n (Integer z) = refl
sort_mapped n (Float f) = refl
sort_mapped n (Text k h ps) = refl

pub begun_mapped : (v : Value Span) (ps : Bor (List ℕ)) → put (content (mapped (λ s. ps) v)) ≡ begun_with (Put v) ps.now
begun_mapped Nothing ps = refl
begun_mapped (Logic b) ps = refl
begun_mapped (Char c) ps = refl
begun_mapped (Integer z) ps = refl
begun_mapped (Float f) ps = refl
begun_mapped (Text k h s) ps = refl
