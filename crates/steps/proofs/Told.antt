-- The values and the steps that cells tell of, once a step is applied.
use Rattle.std.proofs.Common.{◌≡◌, ℕ, zero, suc, ◌+◌, ◌≤◌, List, [], ◌∷◌, ◌++◌, length, take, drop, sym, refl, ap, ◌∙◌, add-one, arith}
use Rattle.std.proofs.lemmas.List.{append_assoc, append-nil, take_all, drop_at, take-append-le, drop-append-le, length-drop}
use Rattle.steps.specs.declared.parts.Node.{Node}
use Rattle.steps.specs.declared.parts.Node.TheVariants.{Root, At}
use Rattle.steps.specs.declared.parts.Span.{Span}
use Rattle.steps.specs.declared.parts.Sort.{Sort}
use Rattle.steps.specs.declared.parts.Content.TheVariants.{Nothing, Logic, Char, Integer, Float, Text}
use Rattle.steps.specs.declared.parts.Sort.TheVariants.{Put, Open, Share}
use Rattle.steps.specs.declared.parts.Cell.{Cell}
use Rattle.steps.specs.Adjust.{adjust}
use Rattle.steps.specs.Steps.{none, logic, char, integer, float, text, Begun, put, open', share, close}
use Rattle.steps.specs.Outline.{Entry}
use Rattle.steps.specs.Law.{codepoints_of}
use Rattle.steps.specs.Build.{more, more_in, shut, adjust_at, sort_of, part, begun_of, entry_of, telling, told, tell, Under}

-- the values that cells tell of, the newest first
abbrev pub entries : List ℕ → List ℕ → List Cell → List Entry
entries p n [] = []
entries p n (c ∷ cs) = entries p n cs ++ (entry_of p n c ∷ [])

pub tell_push : (p n : List ℕ) (cs : List Cell) (c : Cell) → tell p n (cs ++ (c ∷ [])) ≡ told p n c ++ tell p n cs
tell_push p n [] c = sym (append-nil (told p n c))
tell_push p n (d ∷ cs) c = ap (λ ys. ys ++ told p n d) (tell_push p n cs c) ∙ append_assoc (told p n c) (tell p n cs) (told p n d)

pub entries_push : (p n : List ℕ) (cs : List Cell) (c : Cell) → entries p n (cs ++ (c ∷ [])) ≡ entry_of p n c ∷ entries p n cs
entries_push p n [] c = refl
entries_push p n (d ∷ cs) c = ap (λ ys. ys ++ (entry_of p n d ∷ [])) (entries_push p n cs c)

-- ---- one more inner value

pub begun_more : (p : List ℕ) (s : Sort) → begun_of p (more_in s) ≡ begun_of p s
begun_more p (Put Nothing) = refl
begun_more p (Put (Logic b)) = refl
begun_more p (Put (Char n)) = refl
begun_more p (Put (Integer z)) = refl
begun_more p (Put (Float n)) = refl
begun_more p (Put (Text k h s)) = refl
begun_more p (Open h n) = refl
begun_more p (Share s t) = refl

pub entry_more : (p n : List ℕ) (c : Cell) → entry_of p n (more c) ≡ entry_of p n c
entry_more p n c = ap (λ b. record { label = record { new_line = c.new_line; name = part c.name n }; begun = b; holder = c.holder }) (begun_more p c.sort)

pub told_more : (p n : List ℕ) (c : Cell) → told p n (more c) ≡ told p n c
told_more p n c = ap (telling c.closes) (entry_more p n c)

pub tell_adjust : (p n : List ℕ) (cs : List Cell) (i : ℕ) → tell p n (adjust cs i more) ≡ tell p n cs
tell_adjust p n [] i = refl
tell_adjust p n (c ∷ cs) zero = ap (λ ys. tell p n cs ++ ys) (told_more p n c)
tell_adjust p n (c ∷ cs) (suc i) = ap (λ ys. ys ++ told p n c) (tell_adjust p n cs i)

pub tell_adjust_at : (p n : List ℕ) (cs : List Cell) (o : Node) → tell p n (adjust_at o more cs) ≡ tell p n cs
tell_adjust_at p n cs Root = refl
tell_adjust_at p n cs (At i) = tell_adjust p n cs i

pub entries_adjust : (p n : List ℕ) (f : Cell → Cell) → ((c : Cell) → entry_of p n (f c) ≡ entry_of p n c) → (cs : List Cell) (i : ℕ) → entries p n (adjust cs i f) ≡ entries p n cs
entries_adjust p n f h [] i = refl
entries_adjust p n f h (c ∷ cs) zero = ap (λ x. entries p n cs ++ (x ∷ [])) (h c)
entries_adjust p n f h (c ∷ cs) (suc i) = ap (λ ys. ys ++ (entry_of p n c ∷ [])) (entries_adjust p n f h cs i)

pub entries_adjust_at : (p n : List ℕ) (cs : List Cell) (o : Node) → entries p n (adjust_at o more cs) ≡ entries p n cs
entries_adjust_at p n cs Root = refl
entries_adjust_at p n cs (At i) = entries_adjust p n more (entry_more p n) cs i

-- ---- one more close

pub tell_shut : (p n : List ℕ) (cs : List Cell) (i : ℕ) → suc i ≡ length cs → tell p n (adjust cs i shut) ≡ close ∷ tell p n cs
tell_shut p n [] i e = absurd (omega (arith, e))
tell_shut p n (c ∷ []) zero e = ap (λ k. telling k (entry_of p n c)) (add-one c.closes)
tell_shut p n (c ∷ []) (suc i) e = absurd (omega (arith, e))
tell_shut p n (c ∷ (d ∷ cs)) zero e = absurd (omega (arith, e))
tell_shut p n (c ∷ (d ∷ cs)) (suc i) e =
    let less : suc i ≡ length (d ∷ cs) = omega (arith, e) in ap (λ ys. ys ++ told p n c) (tell_shut p n (d ∷ cs) i less)

-- ---- more codepoints and name bytes

abbrev pub SortFine : ℕ → ℕ → Sort → Type 0
SortFine P K (Put Nothing) = Unit {0}
SortFine P K (Put (Logic b)) = Unit {0}
SortFine P K (Put (Char n)) = Unit {0}
SortFine P K (Put (Integer z)) = Unit {0}
SortFine P K (Put (Float n)) = Unit {0}
SortFine P K (Put (Text k h s)) = s.start + s.len ≤ P
SortFine P K (Open h n) = n ≤ K
SortFine P K (Share s t) = Unit {0}

-- a cell's spans lie in what is in use, and its holder and count among the values
pub record CellFine (P N K : ℕ) (c : Cell) : Type 0 where
  pub named : c.name.start + c.name.len ≤ N
  pub sorted : SortFine P K c.sort
  pub held : Under K c.holder

abbrev pub Each : (Cell → Type 0) → List Cell → Type 0
Each Q [] = Unit {0}
Each Q (c ∷ cs) = Q c × Each Q cs

pub part_grow : (s : Span) (xs ys : List ℕ) → s.start + s.len ≤ length xs → part s (xs ++ ys) ≡ part s xs
part_grow s xs ys h =
    let a : s.start ≤ length xs = omega arith in
    let b : s.len ≤ length (drop s.start xs) = simp length-drop (omega arith) in
    ap (λ zs. take s.len zs) (drop-append-le s.start xs ys a) ∙ take-append-le s.len (drop s.start xs) ys b

pub begun_grow : (p q : List ℕ) (K : ℕ) (s : Sort) → SortFine (length p) K s → begun_of (p ++ q) s ≡ begun_of p s
begun_grow p q K (Put Nothing) f = refl
begun_grow p q K (Put (Logic b)) f = refl
begun_grow p q K (Put (Char n)) f = refl
begun_grow p q K (Put (Integer z)) f = refl
begun_grow p q K (Put (Float n)) f = refl
begun_grow p q K (Put (Text k h s)) f = ap (λ xs. put (text k h xs)) (part_grow s p q f)
begun_grow p q K (Open h n) f = refl
begun_grow p q K (Share s t) f = refl

pub entry_grow : (p q n o : List ℕ) (K : ℕ) (c : Cell) → CellFine (length p) (length n) K c → entry_of (p ++ q) (n ++ o) c ≡ entry_of p n c
entry_grow p q n o K c h =
    let b = part_grow c.name n o h.named in
    let d = begun_grow p q K c.sort h.sorted in
    cc

pub tell_grow : (p q n o : List ℕ) (K : ℕ) (cs : List Cell) → Each (CellFine (length p) (length n) K) cs → tell (p ++ q) (n ++ o) cs ≡ tell p n cs
tell_grow p q n o K [] h = refl
tell_grow p q n o K (c ∷ cs) h =
    let a = tell_grow p q n o K cs h.1 in
    let b = ap (telling c.closes) (entry_grow p q n o K c h.0) in
    cc

pub entries_grow : (p q n o : List ℕ) (K : ℕ) (cs : List Cell) → Each (CellFine (length p) (length n) K) cs → entries (p ++ q) (n ++ o) cs ≡ entries p n cs
entries_grow p q n o K [] h = refl
entries_grow p q n o K (c ∷ cs) h =
    let a = entries_grow p q n o K cs h.1 in
    let b = entry_grow p q n o K c h.0 in
    cc

-- ---- the new value

pub part_end : (xs ys : List ℕ) → part (record { start = length xs; len = length ys }) (xs ++ ys) ≡ ys
part_end xs ys = ap (λ zs. take (length ys) zs) (drop_at xs ys (length xs) refl) ∙ take_all (length ys) ys (omega arith)

pub begun_end : (p : List ℕ) (b : Begun) → begun_of (p ++ codepoints_of b) (sort_of (length p) b) ≡ b
begun_end p (put none) = refl
begun_end p (put (logic b)) = refl
begun_end p (put (char n)) = refl
begun_end p (put (integer z)) = refl
begun_end p (put (float n)) = refl
begun_end p (put (text k h ps)) = ap (λ xs. put (text k h xs)) (part_end p ps)
begun_end p (open' h) = refl
begun_end p (share s t) = refl
