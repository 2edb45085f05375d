-- What load accepts is lawful, and nothing in it is open.
use Rattle.std.proofs.Common.{◌≡◌, ℕ, ◌+◌, Bool, true, false, cond, eqb, List, [], ◌∷◌, length, get_or, drop, replicate, Some, None, Ok, Err, Option, sym, refl, ap, ◌∙◌}
use Rattle.steps.specs.Law.{deepest, Memory, Lawful, Closed}
use Rattle.steps.specs.Outline.{opened}
use Rattle.steps.specs.Steps.{Steps, Name}
use Rattle.steps.specs.Utf8.{lawful_name}
use Rattle.redbin.proofs.Drafted.{InDraft, in_draft}
use Rattle.redbin.proofs.Got.{came, same_reader, same_steps, same_value, here_got, refuse_got, Still, still_then, still_refuse, enough_got, below_got, run_got}
use Rattle.redbin.proofs.Kept.{each_kept, empty_ok, value_kept}
use Rattle.redbin.proofs.Table.{AllLawful}
use Rattle.redbin.specs.Reading.{in_memory, Reader, Read, got, refused, skip, return, until_zero, if_lawful, name_at, name_or_refuse, names_at, symbol_table, value, start_of_file, records, whole_file, read, load}

if_lawful_some : (o : Option Name) (n : Name) → if_lawful o ≡ Some n → lawful_name n ≡ true
if_lawful_some None n h = absurd cc
if_lawful_some (Some k) n h = go (lawful_name k) refl
  where
    go : (b : Bool) → lawful_name k ≡ b → lawful_name n ≡ true
    go true e =
        let q : Some k ≡ Some n = rw e at h in
        let p : k ≡ n = cc in
        rw p at e
    go false e =
        let q : None ≡ Some n = rw e at h in
        absurd cc

name_got : (place : ℕ) (o : Option Name) (r : Reader) (n : Name) (s : Reader) → name_or_refuse place o r ≡ got n s → (o ≡ Some n) × (s.steps ≡ r.steps)
unfolding name_or_refuse
name_got place None r n s h = absurd cc
name_got place (Some k) r n s h = (ap Some (sym (same_value k n r s h)), same_steps k n r s h)

names_got : (strings : List ℕ) (place : ℕ) (os : List ℕ) (r : Reader) (ns : List Name) (s : Reader) → names_at strings place os r ≡ got ns s → AllLawful ns × (s.steps ≡ r.steps)
unfolding names_at
names_got strings place [] r ns s h =
    let v : ns ≡ [] = same_value [] ns r s h in
    rw v (tt, same_steps [] ns r s h)
names_got strings place (o ∷ os) r ns s h =
    let a = came _ _ ns s h in
    let p = name_got place (name_at strings o) r a.value a.at a.was in
    let b = came _ _ ns s a.next in
    let q = names_got strings (place + 4) os a.at b.value b.at b.was in
    let v : ns ≡ a.value ∷ b.value = same_value _ ns b.at s b.next in
    let w : s ≡ b.at = same_reader _ ns b.at s b.next in
    rw v ((if_lawful_some (until_zero (drop o strings)) a.value p.0, q.0), ap (λ (y : Reader). y.steps) w ∙ q.1 ∙ p.1)

still_skip : (n : ℕ) → Still (skip n)
unfolding skip
still_skip n = record { still = λ r a s e. same_steps _ a _ s e }

symbol_table_got : (size : ℕ) (r : Reader) (ns : List Name) (s : Reader) → symbol_table size r ≡ got ns s → AllLawful ns × (s.steps ≡ r.steps)
unfolding symbol_table
symbol_table_got size r ns s h =
    let a₁ = came _ _ ns s h in
    let p₁ = (below_got _ _ _ _ _ r a₁.value a₁.at a₁.was).1 in
    let a₂ = came _ _ ns s a₁.next in
    let p₂ = (below_got _ _ _ _ _ a₁.at a₂.value a₂.at a₂.was).1 in
    let a₃ = came _ _ ns s a₂.next in
    let p₃ = here_got size a₂.at a₃.value a₃.at a₃.was in
    let a₄ = came _ _ ns s a₃.next in
    let p₄ = (run_got _ _ _ _ _ _ a₃.at a₄.value a₄.at a₄.was).2 in
    let a₅ = came _ _ ns s a₄.next in
    let p₅ = enough_got size _ _ a₄.at a₅.value a₅.at a₅.was in
    let a₆ = came _ _ ns s a₅.next in
    let p₆ = (still_skip _).still a₅.at a₆.value a₆.at a₆.was in
    let q = names_got a₆.value _ a₄.value a₆.at ns s a₆.next in
    (q.0, q.1 ∙ p₆ ∙ p₅ ∙ p₄ ∙ p₃ ∙ p₂ ∙ p₁)

pub table_got : (b : Bool) (size : ℕ) (r : Reader) (ns : List Name) (s : Reader) → cond b (symbol_table size) (return []) r ≡ got ns s → AllLawful ns × (s.steps ≡ r.steps)
table_got true size r ns s h = symbol_table_got size r ns s h
table_got false size r ns s h =
    let v : ns ≡ [] = same_value [] ns r s h in
    rw v (tt, same_steps [] ns r s h)

pub still_start : (bytes : List ℕ) → Still (start_of_file bytes)
unfolding start_of_file
still_start bytes =
    still_then (still_refuse _ _ _ _) (λ u. still_then (still_refuse _ _ _ _) (λ u. still_then (still_refuse _ _ _ _) (λ u. still_then (still_refuse _ _ _ _)
    (λ u. still_then (still_skip 8) (λ x. record { still = λ r a s e. same_steps _ a r s e })))))

records_got : (c : InDraft) (n : ℕ) (r : Reader) (u : Unit {0}) (s : Reader) → AllLawful c.table → r.steps ≡ [] → records (in_draft c) n r ≡ got u s → Lawful c.memory s.steps × Closed s.steps
unfolding records
records_got c n r u s table empty h =
    let a₁ = came _ _ u s h in
    let p₁ : a₁.at.steps ≡ r.steps = same_steps _ a₁.value r a₁.at a₁.was in
    let a₂ = came _ _ u s a₁.next in
    let p₂ = (refuse_got _ _ _ _ a₁.at a₂.value a₂.at a₂.was).1 in
    let a₃ = came _ _ u s a₂.next in
    let p₃ = (refuse_got _ _ _ _ a₂.at a₃.value a₃.at a₃.was).1 in
    let a₄ = came _ _ u s a₃.next in
    let e : a₃.at.steps ≡ [] = p₃ ∙ p₂ ∙ p₁ ∙ empty in
    let k = each_kept c.memory deepest (value (in_draft c) deepest) (value_kept c table deepest) (replicate n []) a₃.at a₄.value a₄.at a₄.was (rw e tt) (rw e refl) (empty_ok (opened a₃.at.steps) n (rw e)) in
    let a₅ = came _ _ u s a₄.next in
    let p₅ : a₅.at.steps ≡ a₄.at.steps = same_steps _ a₅.value a₄.at a₅.at a₅.was in
    let p₆ = (refuse_got _ _ _ _ a₅.at u s a₅.next).1 in
    let q : s.steps ≡ a₄.at.steps = p₆ ∙ p₅ in
    rw q (k.0, k.1 ∙ ap opened e)

whole_file_got : (m : Memory) (bytes : List ℕ) (u : Unit {0}) (s : Reader) → whole_file (in_memory m) bytes (record { rest = bytes; steps = [] }) ≡ got u s → Lawful m s.steps × Closed s.steps
unfolding whole_file
whole_file_got m bytes u s h =
    let a₁ = came _ _ u s h in
    let p₁ = (still_start bytes).still (record { rest = bytes; steps = [] }) a₁.value a₁.at a₁.was in
    let a₂ = came _ _ u s a₁.next in
    let p₂ = (below_got _ _ _ _ _ a₁.at a₂.value a₂.at a₂.was).1 in
    let a₃ = came _ _ u s a₂.next in
    let p₃ = (below_got _ _ _ _ _ a₂.at a₃.value a₃.at a₃.was).1 in
    let a₄ = came _ _ u s a₃.next in
    let p₄ = table_got (eqb (get_or bytes 7 0) 4) (length bytes) a₃.at a₄.value a₄.at a₄.was in
    records_got (record { size = length bytes; memory = m; table = a₄.value; payload = a₃.value }) a₂.value a₄.at u s p₄.0 (p₄.1 ∙ p₃ ∙ p₂ ∙ p₁) a₄.next

pub load_lawful : (m : Memory) (before : Steps) (bytes : List ℕ) (e : Steps) → load m before bytes ≡ Ok e → Lawful m e × Closed e
unfolding read
load_lawful m (s ∷ before) bytes e h = absurd cc
load_lawful m [] bytes e h = go (whole_file (in_memory m) bytes (record { rest = bytes; steps = [] })) refl
  where
    go : (x : Read (Unit {0})) → whole_file (in_memory m) bytes (record { rest = bytes; steps = [] }) ≡ x → Lawful m e × Closed e
    go (got u s) q =
        let p : Ok s.steps ≡ Ok e = rw q at h in
        let v : e ≡ s.steps = cc in
        rw v (whole_file_got m bytes u s q)
    go (refused x) q =
        let p : Err x ≡ Ok e = rw q at h in
        absurd cc
