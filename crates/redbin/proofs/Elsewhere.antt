-- Lawful steps in other memories, and what the theorems on the canonical form and on load say of them.
use Rattle.std.proofs.Common.{◌≡◌, true, ltb, [], ◌∷◌, length, Ok, ap, arith}
use Rattle.std.proofs.lemmas.Bool.{lt-ltb}
use Rattle.steps.specs.Steps.{Step, Steps, begin, close}
use Rattle.steps.specs.Outline.{opened}
use Rattle.steps.specs.Law.{deepest, Memory, need, limit, Lawful}
use Rattle.redbin.specs.Canonical.{canonical}
use Rattle.redbin.specs.Reading.{load}
use Rattle.redbin.specs.Promises.{Fits, CanonicalReadsBack, CanonicalTellsApart, LoadIsLawful}
use Rattle.redbin.proofs.Puts.{room_parts, room_from}
use Rattle.redbin.proofs.Whole.{allowed}
use Rattle.redbin.proofs.File.{canonical_reads_back}
use Rattle.redbin.proofs.Loaded.{load_lawful}

-- lawful steps fit
pub lawful_fits : (m : Memory) (e : Steps) → Lawful m e → Fits m e
lawful_fits m [] t k = omega arith
lawful_fits m (begin l b ∷ e) t k = room_parts m e (need l.name b) (allowed m e l b t.1).room k
lawful_fits m (close ∷ e) t k = lawful_fits m e t.0 k

pub fits_tail : (m : Memory) (s : Step) (e : Steps) → Fits m (s ∷ e) → Fits m e
fits_tail m (begin l b) e f k = omega (arith, f k)
fits_tail m close e f k = f k

-- and are lawful in any memory that they fit
pub lawful_elsewhere : (m k : Memory) (e : Steps) → Lawful m e → Fits k e → Lawful k e
lawful_elsewhere m k [] t f = tt
lawful_elsewhere m k (begin l b ∷ e) t f =
    let a = allowed m e l b t.1 in
    let n = a.name in
    let v = a.begun in
    let d : ltb (length (opened e)) deepest ≡ true = lt-ltb _ _ a.depth in
    let r = room_from k e (need l.name b) f in
    (lawful_elsewhere m k e t.0 (fits_tail k (begin l b) e f), rw (n, v, d, r))
lawful_elsewhere m k (close ∷ e) t f = (lawful_elsewhere m k e t.0 (fits_tail k close e f), t.1)

pub reads_back : CanonicalReadsBack
reads_back m e w f = canonical_reads_back m e (lawful_elsewhere w.0.0 m e w.0.1 f) w.1 w.2

-- what was lawful in some memory fits the most that a draft uses
fits_limit : (m : Memory) (e : Steps) → Lawful m e → Fits limit e
fits_limit m e t k = omega (arith, lawful_fits m e t k)

pub tells_apart : CanonicalTellsApart
tells_apart e f w v h =
    let p : load limit [] (canonical e) ≡ Ok e = reads_back limit e w (fits_limit w.0.0 e w.0.1) in
    let q : load limit [] (canonical f) ≡ Ok f = reads_back limit f v (fits_limit v.0.0 f v.0.1) in
    let r : load limit [] (canonical e) ≡ load limit [] (canonical f) = ap (load limit []) h in
    cc

pub is_lawful : LoadIsLawful
is_lawful m before file e h =
    let p = load_lawful m before file e h in
    (p.0, p.1, lawful_fits m e p.0)
