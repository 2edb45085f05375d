-- Lists and objects from their headers on.
use Rattle.std.proofs.Common.{◌≡◌, ℕ, Bool, true, Ok, Err, Result, sym, ◌∙◌}
use Rattle.refusal.specs.declared.Refusal.{Refusal}
use Rattle.steps.specs.declared.parts.ListKind.{ListKind}
use Rattle.steps.specs.Steps.{Tag}
use Rattle.steps.specs.Law.{has_room}
use Rattle.document.specs.declared.store.Store.{Store}
use Rattle.document.specs.Standing.{standing, memory_lent}
use Rattle.redbin.specs.Reading.{Setting, Reads, after, room, bare, add_list, add_object, value, ◌>>=◌}
use Rattle.load.specs.declared.reader.Reader.{Reader}
use Rattle.load.specs.Ran.{Did, DidIn, state, rest_of}
use Rattle.load.specs.Filled.{Filled}
use Rattle.load.proofs.Then.{came_by}
use Rattle.load_file.specs.declared.scope.Scope.{Scope}
use Rattle.load_file.specs.declared.scope.Fields.{Fields}
use Rattle.load_file.specs.Scopes.{within, Start, list_start, object_start, context_start, held}
use Rattle.load_file.proofs.Binds.{list_by, object_by, context_by}
use Rattle.load_file.proofs.Chains.{same_size}
use Rattle.load.proofs.Filling.{field_fill, field_stop}
use Rattle.load_file.proofs.Contents.{filled_by}

module _ (k : Scope) (d place : ℕ) (l : Tag) (r s : Reader) (b : Store) where
  abbrev listed : ListKind → Setting → Reads (Unit {0})
  listed kind c = add_list (within k c) (value (within k c) d) place l kind

  abbrev whole : Setting → Start → Reads (Unit {0})
  whole c = held (within k c) (value (within k c) d) place l

  pub list_stop : (kind : ListKind) (w : Refusal) → Did r (list_start kind) (Err w) s → Filled r b (listed kind) (Err w) s b
  list_stop kind w g =
      filled_by r s b b (listed kind) (λ c. list_start kind c.size >>= whole c) (Err w) (λ c q. list_by (within k c) (value (within k c) d) l place kind q) (field_stop r s b (list_start kind) whole w g)

  pub list_then : (kind : ListKind) (x : Start) (q : Reader) (t : Store) (answer : Result (Unit {0}) Refusal) → Did r (list_start kind) (Ok x) s → Filled s b (λ c. whole c x) answer q t → Filled r b (listed kind) answer q t
  list_then kind x q t answer g f =
      filled_by r q b t (listed kind) (λ c. list_start kind c.size >>= whole c) answer (λ c p. list_by (within k c) (value (within k c) d) l place kind p) (field_fill r s b (list_start kind) whole q t x answer g f)

  -- ---- objects

  abbrev objected : Bool → Setting → Reads (Unit {0})
  objected owner c = add_object (within k c) (value (within k c) d) place l owner

  pub object_stop : (owner : Bool) (w : Refusal) → Filled r b (object_start owner place l) (Err w) s b → Filled r b (objected owner) (Err w) s b
  unfolding after
  object_stop owner w g = record {
    file = g.file;
    memory = g.memory;
    came = λ c e u. object_by (within k c) (value (within k c) d) l place owner (state (rest_of r) (standing b)) ∙ rw (g.came (within k c) e u);
  }

  module _ (owner : Bool) (f : Fields) (g : Filled r b (object_start owner place l) (Ok f) s b) (s₂ : Reader) where
    pub context_stop : (w : Refusal) → DidIn s (λ c. context_start f (within k c)) (Err w) s₂ → Filled r b (objected owner) (Err w) s₂ b
    unfolding after
    context_stop w h = record {
      file = h.file ∙ g.file;
      memory = g.memory;
      came = λ c e u.
          object_by (within k c) (value (within k c) d) l place owner (state (rest_of r) (standing b))
          ∙ rw (g.came (within k c) e u) (context_by (within k c) (value (within k c) d) l f (state (rest_of s) (standing b)) ∙ rw (h.ran c (e ∙ sym (same_size r s g.file)) (standing b)));
    }

    pub context_then : (x : Start) (q : Reader) (t : Store) (answer : Result (Unit {0}) Refusal) → has_room (memory_lent b) (standing b) (bare l.name) ≡ true
        → DidIn s (λ c. context_start f (within k c)) (Ok x) s₂ → Filled s₂ b (λ c. whole c x) answer q t → Filled r b (objected owner) answer q t
    unfolding after room
    context_then x q t answer fits h p = record {
      file = p.file ∙ h.file ∙ g.file;
      memory = p.memory;
      came = λ c e u.
          let z : whole c x (state (rest_of s₂) (standing b)) ≡ _ = rw (u, fits) in
          came_by (objected owner c) (whole c x) (rest_of r) (rest_of s₂) (rest_of q) (standing b) (standing b) (standing t) answer
          (object_by (within k c) (value (within k c) d) l place owner (state (rest_of r) (standing b))
          ∙ rw (g.came (within k c) e u) (context_by (within k c) (value (within k c) d) l f (state (rest_of s) (standing b)) ∙ rw (h.ran c (e ∙ sym (same_size r s g.file)) (standing b)) (sym z)))
          (p.came c (e ∙ sym (same_size r s₂ (h.file ∙ g.file))) u);
    }
