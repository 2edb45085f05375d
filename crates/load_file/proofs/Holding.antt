-- Lists and objects with the values in them.
use Rattle.std.proofs.Common.{◌≡◌, ℕ, zero, suc, ◌<◌, Bool, true, false, List, [], ◌∷◌, length, get_or, replicate, Ok, Err, sym, refl, ap, ◌∙◌, arith}
use Rattle.std.proofs.lemmas.Bool.{lt-ltb, and_from}
use Rattle.refusal.specs.declared.Refusal.{Refusal}
use Rattle.steps.specs.declared.parts.Holder.{Holder}
use Rattle.steps.specs.declared.parts.Holder.TheVariants.{List as OfList, Object as OfObject}
use Rattle.steps.specs.declared.parts.ListKind.{ListKind}
use Rattle.steps.specs.Utf8.{lawful_name}
use Rattle.steps.specs.Steps.{Name, Tag, Steps, open', begin, close}
use Rattle.steps.specs.Outline.{is_object}
use Rattle.steps.specs.Law.{Memory, field_end, word_end, holder_ok, has_room}
use Rattle.document.specs.declared.store.Store.{Store}
use Rattle.document.specs.Standing.{standing, memory_lent}
use Rattle.redbin.specs.Reading.{Reader as State, Setting, Reads, got, after, each, push, bare, named_by, value, in_memory, ◌>>◌}
use Rattle.redbin.proofs.Drafted.{InDraft, in_draft}
use Rattle.redbin.proofs.Fields.{Below}
use Rattle.redbin.proofs.Got.{came, below_got, run_got, room_got, push_got, same_value}
use Rattle.load.specs.declared.reader.Reader.{Reader}
use Rattle.load.specs.Holders.{opened_with}
use Rattle.load.specs.Ran.{state, rest_of}
use Rattle.load.specs.Filled.{Added, Filled}
use Rattle.load_file.specs.declared.scope.Scope.{Scope}
use Rattle.load_file.specs.declared.scope.Fields.{Fields}
use Rattle.load_file.specs.Lawful.{AllLawful}
use Rattle.load_file.specs.Scopes.{within, Start, list_start, object_start, context_start, held}
use Rattle.load_file.specs.Values.{Named}
use Rattle.load_file.proofs.Binds.{held_starts}

-- the setting of a draft's records
abbrev pub drafted : Memory → Setting
drafted m = record { size = 0; uses = in_memory m; table = []; payload = 0 }

-- what stands after an open
pub opened_stands : (b t : Store) (place : ℕ) (l : Tag) (h : Holder) → Added b (λ c. opened_with c place l h) (Ok tt) t → standing t ≡ begin l (open' h) ∷ standing b
opened_stands b t place l h d =
    let c : InDraft = record { size = 0; memory = memory_lent b; table = []; payload = 0 } in
    let a = came _ _ tt (state [] (standing t)) (d.came (drafted (memory_lent b)) [] refl) in
    let r = room_got c place (bare l.name) (state [] (standing b)) a.value a.at a.was in
    push_got (memory_lent b) (begin l (open' h)) a.at tt (state [] (standing t)) a.next ∙ ap (λ (e : Steps). begin l (open' h) ∷ e) r.1

module _ (k : Scope) (d place : ℕ) (l : Tag) (s : Start) (r : Reader) (b t : Store) where
  abbrev whole : Setting → Reads (Unit {0})
  whole c = held (within k c) (value (within k c) d) place l s

  abbrev inner : Setting → Reads (Unit {0})
  inner c = each (value (within k c) d) s.names

  starts : (c : Setting) (q : State) → whole c q ≡ after (opened_with (within k c) place l s.holder q) (λ _. inner c >> push c.uses close)
  starts c q = held_starts (within k c) (value (within k c) d) l place s q

  pub held_refused : (w : Refusal) → Added b (λ c. opened_with c place l s.holder) (Err w) t → Filled r b whole (Err w) r t
  unfolding after
  held_refused w a = record { file = refl; memory = a.memory; came = λ c e u. starts c (state (rest_of r) (standing b)) ∙ rw (a.came (within k c) (rest_of r) u) }

  module _ (a : Added b (λ c. opened_with c place l s.holder) (Ok tt) t) (q : Reader) (u : Store) where
    pub held_broke : (w : Refusal) → Filled r t inner (Err w) q u → Filled r b whole (Err w) q u
    unfolding after
    held_broke w g = record {
      file = g.file;
      memory = g.memory ∙ a.memory;
      came = λ c e v.
          starts c (state (rest_of r) (standing b)) ∙ rw (a.came (within k c) (rest_of r) v, g.came c e (v ∙ ap in_memory (sym a.memory)));
    }

    pub held_got : (x : Store) → Filled r t inner (Ok tt) q u → Added u (λ c. push c.uses close) (Ok tt) x → Filled r b whole (Ok tt) q x
    unfolding after
    held_got x g p = record {
      file = g.file;
      memory = p.memory ∙ g.memory ∙ a.memory;
      came = λ c e v.
          let v' : c.uses ≡ in_memory (memory_lent t) = v ∙ ap in_memory (sym a.memory) in
          starts c (state (rest_of r) (standing b)) ∙ rw (a.came (within k c) (rest_of r) v, g.came c e v') (p.came c (rest_of q) (v' ∙ ap in_memory (sym g.memory)));
    }

-- ---- the names of the values in it

pub unnamed : (n : ℕ) → Named false (replicate n [])
unnamed zero = tt
unnamed (suc n) = (refl, unnamed n)

lawful_at : (table : List Name) (i : ℕ) → AllLawful table → i < length table → lawful_name (get_or table i []) ≡ true
lawful_at [] i t h = absurd (omega arith)
lawful_at (n ∷ ns) zero t h = t.0
lawful_at (n ∷ ns) (suc i) t h = lawful_at ns i t.1 (omega arith)

pub named_all : (table : List Name) (is : List ℕ) → AllLawful table → Below (length table) is → Named true (named_by table is)
unfolding named_by
named_all table [] t b = tt
named_all table (i ∷ is) t b = (lawful_at table i t b.0, named_all table is t b.1)

-- ---- how it starts

-- a list that was read
pub record Listed (s : Start) : Type 0 where
  pub allowed : holder_ok s.holder ≡ true
  pub named : Named (is_object s.holder) s.names

pub list_got : (kind : ListKind) (size : ℕ) (q p : State) (s : Start) → list_start kind size q ≡ got s p → Listed s
list_got kind size q p s h =
    let a = came _ _ s p h in
    let x = below_got _ _ _ _ _ q a.value a.at a.was in
    let b = came _ _ s p a.next in
    let e : s ≡ record { holder = OfList kind a.value; names = replicate b.value [] } = same_value _ s b.at p b.next in
    rw e (record { allowed = lt-ltb a.value field_end x.0; named = unnamed b.value })

-- an object whose fields were read
pub record Fielded (m : Memory) (e : Steps) (l : Tag) (f : Fields) : Type 0 where
  pub class : f.class < field_end
  pub on_set : f.on_set < word_end
  pub arity : f.arity < field_end
  pub room : has_room m e (bare l.name) ≡ true

pub fields_got : (owner : Bool) (start : ℕ) (l : Tag) (c : InDraft) (q p : State) (f : Fields) → object_start owner start l (in_draft c) q ≡ got f p → Fielded c.memory q.steps l f
fields_got owner start l c q p f h =
    let a₁ = came _ _ f p h in
    let x₁ = below_got _ _ _ _ _ q a₁.value a₁.at a₁.was in
    let a₂ = came _ _ f p a₁.next in
    let x₂ = below_got _ _ _ _ _ a₁.at a₂.value a₂.at a₂.was in
    let a₃ = came _ _ f p a₂.next in
    let x₃ = below_got _ _ _ _ _ a₂.at a₃.value a₃.at a₃.was in
    let a₄ = came _ _ f p a₃.next in
    let x₄ = room_got c start (bare l.name) a₃.at a₄.value a₄.at a₄.was in
    let e : f ≡ record { owner = owner; class = a₁.value; on_set = a₂.value; arity = a₃.value } = same_value _ f a₄.at p a₄.next in
    let q₃ : a₃.at.steps ≡ q.steps = x₃.1 ∙ x₂.1 ∙ x₁.1 in
    let r : has_room c.memory q.steps (bare l.name) ≡ true = rw q₃ at x₄.0 in
    rw e (record { class = x₁.0; on_set = x₂.0; arity = x₃.0; room = r })

-- a context that was read
pub record Contexted (s : Start) : Type 0 where
  pub allowed : holder_ok s.holder ≡ true
  pub marked : is_object s.holder ≡ true
  pub named : Named true s.names

pub context_got : (f : Fields) (c : Setting) (q p : State) (s : Start) → f.class < field_end → f.on_set < word_end → f.arity < field_end → AllLawful c.table → context_start f c q ≡ got s p → Contexted s
context_got f c q p s x₁ x₂ x₃ t h =
    let a₁ = came _ _ s p h in
    let a₂ = came _ _ s p a₁.next in
    let a₃ = came _ _ s p a₂.next in
    let y = run_got _ _ _ _ _ _ a₂.at a₃.value a₃.at a₃.was in
    let e : s ≡ record { holder = OfObject f.owner a₁.value f.class f.on_set f.arity; names = named_by c.table a₃.value } = same_value _ s a₃.at p a₃.next in
    rw e (record { allowed = and_from _ _ (lt-ltb _ _ x₁) (and_from _ _ (lt-ltb _ _ x₂) (lt-ltb _ _ x₃)); marked = refl; named = named_all c.table a₃.value t y.0 })
