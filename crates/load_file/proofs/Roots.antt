-- The root values of a file, and the whole file.
use Rattle.std.proofs.Common.{◌≡◌, ℕ, suc, ◌+◌, ◌-◌, ◌<◌, ◌≤◌, Bool, true, false, cond, eqb, ltb, List, [], ◌∷◌, length, get_or, replicate, Ok, Err, Result, sym, refl, ap, ◌∙◌, subst, arith}
use Rattle.refusal.specs.declared.Refusal.{Refusal}
use Rattle.refusal.specs.declared.Reason.TheVariants.{Short, LeftOver, StepsStand}
use Rattle.refusal.specs.declared.Part.TheVariants.{Header, Draft}
use Rattle.steps.specs.Steps.{Steps, Name}
use Rattle.steps.specs.Outline.{Opened, opened}
use Rattle.steps.specs.Law.{Memory, name_ok}
use Rattle.document.specs.declared.store.Store.{Store}
use Rattle.document.specs.Standing.{standing, memory_lent, none_stands}
use Rattle.redbin.specs.Layout.{flags_place, table_flag}
use Rattle.redbin.specs.Reading.{Reader as State, Setting, Uses, Read, Reads, got, refused, because, after, refuse_when, word, each, value, records, symbol_table, return, start_of_file, whole_file, answer, read, load, in_memory, ◌>>◌}
use Rattle.redbin.proofs.Loaded.{table_got}
use Rattle.load.specs.Ends.{payload_rest, nothing_left}
use Rattle.load.specs.declared.filler.Filler.{Filler}
use Rattle.load.specs.Ran.{state, size_of, rest_of}
use Rattle.load.specs.Filled.{Filled}
use Rattle.load.proofs.Tabled.{after_after}
use Rattle.load_file.specs.declared.loader.Loader.{Loader}
use Rattle.load_file.specs.Files.{Comes, Untouched}
use Rattle.load_file.specs.Lawful.{AllLawful}
use Rattle.load_file.specs.Scopes.{within}
use Rattle.load_file.specs.Values.{Prepared, Read as LoaderRead}
use Rattle.load_file.proofs.Chains.{same_size}
use Rattle.load_file.proofs.Turns.{opened_kept}

-- ---- the root values, one after another

-- where the reading of n root values stands, i of them are read
pub record Rooting (a : Loader) (b : Filler) (z : Loader) (t : Filler) (depth n i : ℕ) : Type 0 where
  pub file : t.reader.file ≡ b.reader.file
  pub deep : depth ≡ 32
  pub lent : t.store.ghost_name ≡ b.store.ghost_name
  pub scope : z.scope ≡ a.scope
  pub memory : memory_lent t.store.now ≡ memory_lent b.store.now
  pub same : opened (standing t.store.now) ≡ opened (standing b.store.now)
  pub came :
      (c : Setting) → c.size ≡ size_of b.reader → c.uses ≡ in_memory (memory_lent b.store.now)
      → each (value (within a.scope c) 32) (replicate (n - i) []) (state (rest_of t.reader) (standing t.store.now)) ≡ each (value (within a.scope c) 32) (replicate n []) (state (rest_of b.reader) (standing b.store.now))

pub root_start : (a : Loader) (b : Filler) (n : ℕ) → Rooting a b a b 32 n 0
root_start a b n =
    let z : n - 0 ≡ n = omega arith in
    record { file = refl; deep = refl; lent = refl; scope = refl; memory = refl; same = refl; came = λ c q u. rw z }

empty_ok : (os : List Opened) → 32 + length os ≡ 32 → name_ok os [] ≡ true
empty_ok [] h = refl
empty_ok (o ∷ os) h = absurd (omega arith)

module _ (a : Loader) (b : Filler) (z : Loader) (t : Filler) (p : Prepared 32 b.store.now) (depth n i : ℕ) (inv : Rooting a b z t depth n i) where
  pub root_prepared : Prepared depth t.store.now
  root_prepared = rw (inv.deep, inv.same) p

  pub root_named : name_ok (opened (standing t.store.now)) [] ≡ true
  root_named = empty_ok (opened (standing t.store.now)) (rw inv.same p)

  module _ (lt : i < n) (y : Loader) (s : Filler) where
    one_more : replicate {A = Name} (n - i) [] ≡ [] ∷ replicate (n - (i + 1)) []
    one_more = let e : n - i ≡ suc (n - (i + 1)) = omega arith in ap (λ (j : ℕ). replicate {A = Name} j []) e

    one_read : (answer : Result (Unit {0}) Refusal) → LoaderRead (λ c. value c depth []) z t answer y s → Filled t.reader t.store.now (λ c. value (within a.scope c) 32 []) answer s.reader s.store.now
    one_read answer g = rw (inv.scope, inv.deep) at g.fills.filled

    pub root_again : (d : ℕ) → d ≡ depth → LoaderRead (λ c. value c depth []) z t (Ok tt) y s → Rooting a b y s d n (i + 1)
    unfolding each after
    root_again d q g =
        let f = one_read (Ok tt) g in
        record {
          file = f.file ∙ inv.file;
          deep = q ∙ inv.deep;
          lent = g.fills.lent ∙ inv.lent;
          scope = g.scope ∙ inv.scope;
          memory = f.memory ∙ inv.memory;
          same = opened_kept a.scope a.lawful 32 [] t.reader s.reader t.store.now s.store.now (rw inv.same p) root_named f ∙ inv.same;
          came = λ c e u. let v = f.came c (e ∙ sym (same_size b.reader t.reader inv.file)) (u ∙ ap in_memory (sym inv.memory)) in rw (one_more, v) at (inv.came c e u);
        }

    pub root_broke : (w : Refusal) → LoaderRead (λ c. value c depth []) z t (Err w) y s → LoaderRead (λ c. each (value c 32) (replicate n [])) a b (Err w) y s
    unfolding each after
    root_broke w g =
        let f = one_read (Err w) g in
        record {
          fills = record {
            filled = record {
              file = f.file ∙ inv.file;
              memory = f.memory ∙ inv.memory;
              came = λ c e u. let v = f.came c (e ∙ sym (same_size b.reader t.reader inv.file)) (u ∙ ap in_memory (sym inv.memory)) in sym (rw (one_more, v) at (inv.came c e u));
            };
            lent = g.fills.lent ∙ inv.lent;
          };
          scope = g.scope ∙ inv.scope;
        }

  pub root_end : n ≤ i → LoaderRead (λ c. each (value c 32) (replicate n [])) a b (Ok tt) z t
  unfolding each
  root_end le = record {
    fills = record {
      filled = record {
        file = inv.file;
        memory = inv.memory;
        came = λ c e u. let z : n - i ≡ 0 = omega arith in sym (rw z at (inv.came c e u));
      };
      lent = inv.lent;
    };
    scope = inv.scope;
  }

-- ---- the payload

pub records_by : (c : Setting) (n : ℕ) (q : State) → records c n q ≡ after (payload_rest c.payload q) (λ _. each (value c 32) (replicate n []) >> nothing_left c.size)
unfolding records after
records_by c n q =
    sym (after_after (refuse_when (ltb (length q.rest) c.payload) Short Header 12 q) (λ _. refuse_when (ltb c.payload (length q.rest)) LeftOver Header 12) (λ _. each (value c 32) (replicate n []) >> nothing_left c.size))

-- ---- the whole file

pub table_lawful : (b : Bool) (size : ℕ) (q p : State) (ns : List Name) → cond b (symbol_table size) (return []) q ≡ got ns p → AllLawful ns
table_lawful b size q p ns h = (table_got b size q ns p h).0

module _ (k : Uses) (file x₁ : List ℕ) (e : Steps) where
  abbrev whole : Read (Unit {0})
  whole = whole_file k file (state file e)

  pub whole_start : (w : Refusal) → start_of_file file (state file e) ≡ refused w → whole ≡ refused w
  unfolding whole_file after
  whole_start w h = rw h

  module _ (h₁ : start_of_file file (state file e) ≡ got tt (state x₁ e)) where
    pub whole_count : (w : Refusal) → word (length file) Header (state x₁ e) ≡ refused w → whole ≡ refused w
    unfolding whole_file after
    whole_count w h = rw (h₁, h)

    module _ (count : ℕ) (x₂ : List ℕ) (h₂ : word (length file) Header (state x₁ e) ≡ got count (state x₂ e)) where
      pub whole_payload : (w : Refusal) → word (length file) Header (state x₂ e) ≡ refused w → whole ≡ refused w
      unfolding whole_file after
      whole_payload w h = rw (h₁, h₂, h)

      module _ (payload : ℕ) (x₃ : List ℕ) (h₃ : word (length file) Header (state x₂ e) ≡ got payload (state x₃ e)) where
        abbrev tabled : Reads (List Name)
        tabled = cond (eqb (get_or file flags_place 0) table_flag) (symbol_table (length file)) (return [])

        pub whole_table : (w : Refusal) → tabled (state x₃ e) ≡ refused w → whole ≡ refused w
        unfolding whole_file after
        whole_table w h = rw (h₁, h₂, h₃, h)

        pub whole_records : (table : List Name) (x₄ : List ℕ) → tabled (state x₃ e) ≡ got table (state x₄ e) → whole ≡ records (record { size = length file; uses = k; table = table; payload = payload }) count (state x₄ e)
        unfolding whole_file after
        whole_records table x₄ h = rw (h₁, h₂, h₃, h)

pub read_refused : (k : Uses) (file : List ℕ) (w : Refusal) → whole_file k file (state file []) ≡ refused w → read k file ≡ Err w
unfolding read
read_refused k file w h = ap answer h

-- what the records come to, the file does
pub comes_by : (k : Uses) (file x : List ℕ) (c : Setting) (n : ℕ) (d f : Steps) (result : Result (Unit {0}) Refusal) → d ≡ [] → whole_file k file (state file []) ≡ records c n (state x []) → Comes (answer (records c n (state x d))) result f → Comes (read k file) result f
unfolding read
comes_by k file x c n d f result e h g =
    subst (λ (y : Result Steps Refusal). Comes y result f) (sym (ap answer h)) (subst (λ (d : Steps). Comes (answer (records c n (state x d))) result f) e g)

-- ---- load

pub some_stand : (m : Memory) (e : Steps) (file : List ℕ) → none_stands e ≡ false → load m e file ≡ Err (because StepsStand Draft 0)
some_stand m (s ∷ e) file h = refl
some_stand m [] file h = absurd cc

pub none_stand : (e : Steps) → none_stands e ≡ true → e ≡ []
none_stand [] h = refl
none_stand (s ∷ e) h = absurd cc

pub untouched : (e : Steps) (s : Store) → Untouched e s s
untouched [] s = tt
untouched (x ∷ e) s = refl
