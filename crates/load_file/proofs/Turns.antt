-- What one turn through the values of a level comes to.
use Rattle.std.proofs.Common.{◌≡◌, ℕ, ◌+◌, ◌≤◌, true, ◌≢◌, List, [], ◌∷◌, Some, Ok, Err, Result, sym, refl, ap, ◌∙◌, subst, arith}
use Rattle.refusal.specs.declared.Refusal.{Refusal}
use Rattle.steps.specs.Steps.{Name}
use Rattle.steps.specs.Outline.{opened, in_object}
use Rattle.steps.specs.Law.{name_ok}
use Rattle.document.specs.declared.store.Store.{Store}
use Rattle.document.specs.Standing.{standing, memory_lent}
use Rattle.redbin.specs.Reading.{Setting, after, each, value, in_memory}
use Rattle.redbin.proofs.Drafted.{InDraft}
use Rattle.redbin.proofs.Kept.{value_kept}
use Rattle.load.specs.declared.reader.Reader.{Reader}
use Rattle.load.specs.declared.filler.Filler.{Filler}
use Rattle.load.specs.Ran.{state, size_of, rest_of}
use Rattle.load.specs.Filled.{Filled}
use Rattle.load.specs.Tables.{table_of}
use Rattle.load_file.specs.declared.depth.Depth.{Depth}
use Rattle.load_file.specs.declared.loader.Loader.{Loader}
use Rattle.load_file.specs.declared.scope.Scope.{Scope}
use Rattle.load_file.specs.Lawful.{AllLawful}
use Rattle.load_file.specs.Levels.{record_at, names_left, Next}
use Rattle.load_file.specs.Scopes.{within}
use Rattle.load_file.specs.Values.{Prepared, Named, Valued}
use Rattle.load_file.proofs.Chains.{same_size}

-- what is open stays open
pub opened_kept : (k : Scope) → AllLawful (table_of k.symbols) → (d : ℕ) (n : Name) (r s : Reader) (b t : Store) → Prepared d b → name_ok (opened (standing b)) n ≡ true → Filled r b (λ c. value (within k c) d n) (Ok tt) s t
    → opened (standing t) ≡ opened (standing b)
opened_kept k table d n r s b t deep named g =
    let c : InDraft = record { size = size_of r; memory = memory_lent b; table = table_of k.symbols; payload = k.payload } in
    let c' : Setting = record { size = size_of r; uses = in_memory (memory_lent b); table = []; payload = 0 } in
    (value_kept c table d n (state (rest_of r) (standing b)) tt (state (rest_of s) (standing t)) (g.came c' refl refl) b.stands.lawful deep named).1

-- where the reading of a level's values stands, which began with these
pub record Turning (at : ℕ) (first : List Name) (a : Loader) (b : Filler) (z : Loader) (t : Filler) (left : ℕ) : Type 0 where
  pub file : t.reader.file ≡ b.reader.file
  pub depth : left ≡ at
  pub lent : t.store.ghost_name ≡ b.store.ghost_name
  pub scope : z.scope ≡ a.scope
  pub memory : memory_lent t.store.now ≡ memory_lent b.store.now
  pub same : opened (standing t.store.now) ≡ opened (standing b.store.now)
  pub levels : (i : ℕ) → at + 1 ≤ i → record_at z.levels.records i ≡ record_at a.levels.records i
  pub named : Named (in_object (opened (standing b.store.now))) (names_left (table_of a.scope.symbols) (record_at z.levels.records at))
  pub came :
      (c : Setting) → c.size ≡ size_of b.reader → c.uses ≡ in_memory (memory_lent b.store.now)
      → each (value (within a.scope c) at) (names_left (table_of a.scope.symbols) (record_at z.levels.records at)) (state (rest_of t.reader) (standing t.store.now))
      ≡ each (value (within a.scope c) at) first (state (rest_of b.reader) (standing b.store.now))

-- one value is read, under this name
module _ (at : ℕ) (first : List Name) (a : Loader) (b : Filler) (z : Loader) (t : Filler) (y : Loader) (d : Depth) (name : Name) (inv : Turning at first a b z t d.left) (scope : y.scope ≡ z.scope)
    (next : Next (table_of z.scope.symbols) z.levels.records at (Some name) y.levels.records) (deep : Prepared at b.store.now) where
  abbrev left_in : Loader → List Name
  left_in x = names_left (table_of a.scope.symbols) (record_at x.levels.records at)

  all_left : left_in z ≡ name ∷ left_in y
  all_left = rw inv.scope at next.0

  names : Named (in_object (opened (standing b.store.now))) (name ∷ left_in y)
  names = rw all_left at inv.named

  module _ (x : Loader) (s : Filler) (e : Depth) where
    module _ (answer : Result (Unit {0}) Refusal) (g : Valued (λ c. value c d.left name) y t d answer x s e) where
      read : Filled t.reader t.store.now (λ c. value (within a.scope c) at name) answer s.reader s.store.now
      read = rw (scope, inv.scope, inv.depth) at g.read.fills.filled

      pub lower : (i : ℕ) → at + 1 ≤ i → record_at x.levels.records i ≡ record_at a.levels.records i
      lower i le =
          let ne : i ≢ at = λ q. omega (arith, q) in
          let h : d.left ≤ i = omega (arith, inv.depth) in
          g.levels i h ∙ next.1 i ne ∙ inv.levels i le

      pub lent_still : s.store.ghost_name ≡ b.store.ghost_name
      lent_still = g.read.fills.lent ∙ inv.lent

      pub scope_still : x.scope ≡ a.scope
      scope_still = g.read.scope ∙ scope ∙ inv.scope

      here : record_at x.levels.records at ≡ record_at y.levels.records at
      here = let h : d.left ≤ at = omega (arith, inv.depth) in g.levels at h

    pub turn_again : Valued (λ c. value c d.left name) y t d (Ok tt) x s e → Turning at first a b x s e.left
    unfolding each after
    turn_again g =
        let f = read (Ok tt) g in
        let h = here (Ok tt) g in
        record {
          file = f.file ∙ inv.file;
          depth = g.depth ∙ inv.depth;
          lent = lent_still (Ok tt) g;
          scope = scope_still (Ok tt) g;
          memory = f.memory ∙ inv.memory;
          same = opened_kept a.scope a.lawful at name t.reader s.reader t.store.now s.store.now (rw inv.same deep) (rw inv.same names.0) f ∙ inv.same;
          levels = lower (Ok tt) g;
          named = rw h names.1;
          came = λ c q u.
              let v = f.came c (q ∙ sym (same_size b.reader t.reader inv.file)) (u ∙ ap in_memory (sym inv.memory)) in
              let i = rw (all_left, v) at (inv.came c q u) in
              rw h i;
        }

    pub turn_broke : (w : Refusal) → Valued (λ c. value c d.left name) y t d (Err w) x s e → Filled b.reader b.store.now (λ c. each (value (within a.scope c) at) first) (Err w) s.reader s.store.now
    unfolding each after
    turn_broke w g =
        let f = read (Err w) g in
        record {
          file = f.file ∙ inv.file;
          memory = f.memory ∙ inv.memory;
          came = λ c q u.
              let v = f.came c (q ∙ sym (same_size b.reader t.reader inv.file)) (u ∙ ap in_memory (sym inv.memory)) in
              sym (rw (all_left, v) at (inv.came c q u));
        }

-- no value is left
pub turn_end : (at left : ℕ) (first : List Name) (a : Loader) (b : Filler) (z : Loader) (t : Filler) → Turning at first a b z t left → names_left (table_of z.scope.symbols) (record_at z.levels.records at) ≡ [] → Filled b.reader b.store.now (λ c. each (value (within a.scope c) at) first) (Ok tt) t.reader t.store.now
unfolding each
turn_end at left first a b z t inv none =
    let none' : names_left (table_of a.scope.symbols) (record_at z.levels.records at) ≡ [] = rw inv.scope at none in
    record { file = inv.file; memory = inv.memory; came = λ c q u. sym (rw none' at (inv.came c q u)) }

-- a level has the number of those inside it
pub filled_at : (k : Scope) (at n : ℕ) (xs ys : List Name) (r s : Reader) (b t : Store) (answer : Result (Unit {0}) Refusal) → at ≡ n → xs ≡ ys → Filled r b (λ c. each (value (within k c) at) xs) answer s t → Filled r b (λ c. each (value (within k c) n) ys) answer s t
filled_at k at n xs ys r s b t answer p q g =
    subst (λ (n : ℕ). Filled r b (λ c. each (value (within k c) n) ys) answer s t) p (subst (λ (ys : List Name). Filled r b (λ c. each (value (within k c) at) ys) answer s t) q g)
