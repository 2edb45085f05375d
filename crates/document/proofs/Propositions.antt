-- What every store keeps, as one record, which holds in at most one way.
use Rattle.std.proofs.Common.{◌≡◌, ◌^◌, ◌<◌, ◌≤◌}
use base.Stored.{Coded-set, coded_ℕ}
use denote.Struct.Props.{props}
use Rattle.document.specs.declared.store.Store.{Store}
use Rattle.steps.specs.declared.pile.Pile.{Pile}
use Rattle.steps.specs.Items.{lent}
use Rattle.steps.specs.Law.{limit, cells, points, names}
use Rattle.document.specs.Stands.{Stands, stands_prop}
use Rattle.document.specs.Standing.{in_use, memory_lent}

-- a pile uses no more than it is lent and may use
abbrev pub Sound : {T : Type 0} → Pile T → Type 0
Sound p = (p.used ≤ lent p) × (p.used ≤ p.bound) × (p.bound < 2 ^ 32)

pub record Kept (s : Store) : Type 0 where
  pub cells_sound : Sound s.cells
  pub points_sound : Sound s.codepoints
  pub names_sound : Sound s.names
  pub cells_bound : s.cells.bound ≡ limit cells
  pub points_bound : s.codepoints.bound ≡ limit points
  pub names_bound : s.names.bound ≡ limit names
  pub stands : Stands (memory_lent s) (in_use s)

pub sound : {T : Type 0} (p : Pile T) → Sound p
sound p = (p.within, p.bounded, p.small)

-- each store keeps it, by its ghost fields and those of its piles
pub kept : (s : Store) → Kept s
kept s = record {
  cells_sound = sound s.cells;
  points_sound = sound s.codepoints;
  names_sound = sound s.names;
  cells_bound = s.cells_bound;
  points_bound = s.points_bound;
  names_bound = s.names_bound;
  stands = s.stands;
}

pub sound_prop : {T : Type 0} (p : Pile T) → IsProp (Sound p)
sound_prop p = hlevel props

pub kept_prop : (s : Store) → IsProp (Kept s)
kept_prop s p q =
    λ i. record {
      cells_sound = sound_prop s.cells p.cells_sound q.cells_sound i;
      points_sound = sound_prop s.codepoints p.points_sound q.points_sound i;
      names_sound = sound_prop s.names p.names_sound q.names_sound i;
      cells_bound = Coded-set coded_ℕ _ _ p.cells_bound q.cells_bound i;
      points_bound = Coded-set coded_ℕ _ _ p.points_bound q.points_bound i;
      names_bound = Coded-set coded_ℕ _ _ p.names_bound q.names_bound i;
      stands = stands_prop (memory_lent s) (in_use s) p.stands q.stands i;
    }

pub kept_of : (s : Store) → ∥ Kept s ∥₁ → Kept s
kept_of s k = kept s
