-- What stands in lent memory.
use Rattle.std.specs.Prelude.{◌≡◌, ℕ, [], ◌∷◌}
use base.Stored.{Coded-set, coded_ℕ, coded_list}
use Rattle.std.specs.contracts.option.Option.{the_row as option_row}
use Rattle.refusal.specs.contracts.Reason.{the_row as reason_row}
use Rattle.steps.specs.contracts.parts.Cell.{the_row as cell_row}
use Rattle.steps.specs.contracts.parts.Node.{the_row as node_row}
use Rattle.steps.specs.declared.parts.Node.{Node}
use Rattle.steps.specs.declared.parts.Cell.{Cell}
use Rattle.steps.specs.declared.pile.Pile.{Pile}
use Rattle.steps.specs.Steps.{Steps}
use Rattle.steps.specs.Law.{Memory, so_much, Lawful}
use Rattle.steps.specs.Items.{items, lent}
use Rattle.steps.specs.Build.{Built, build, steps}

-- what is in use of piles of cells, codepoints and name bytes, with the innermost open value and how many are open
abbrev pub used_of : Pile Cell → Pile ℕ → Pile ℕ → Node → ℕ → Built
used_of cs ps ns o d = record { cells = items cs; points = items ps; names = items ns; innermost = o; depth = d }

-- the memory that their owner lends
abbrev pub lent_of : Pile Cell → Pile ℕ → Pile ℕ → Memory
lent_of cs ps ns = so_much (lent cs) (lent ps) (lent ns)

-- what is in use is what its steps build, and each of them was accepted in this memory
pub record Stands (m : Memory) (b : Built) : Type 0 where
  pub built : b ≡ build (steps b)
  pub lawful : Lawful m (steps b)

-- ---- this holds in at most one way, so that a struct can state it

built_set : (a b : Built) → IsProp (a ≡ b)
built_set a b p q =
    λ i j. record {
      cells = Coded-set (coded_list cell_row.coded) a.cells b.cells (λ k. (p k).cells) (λ k. (q k).cells) i j;
      points = Coded-set (coded_list coded_ℕ) a.points b.points (λ k. (p k).points) (λ k. (q k).points) i j;
      names = Coded-set (coded_list coded_ℕ) a.names b.names (λ k. (p k).names) (λ k. (q k).names) i j;
      innermost = Coded-set node_row.coded a.innermost b.innermost (λ k. (p k).innermost) (λ k. (q k).innermost) i j;
      depth = Coded-set coded_ℕ a.depth b.depth (λ k. (p k).depth) (λ k. (q k).depth) i j;
    }

lawful_prop : (m : Memory) (e : Steps) → IsProp (Lawful m e)
lawful_prop m [] p q = λ i. tt
lawful_prop m (s ∷ e) p q = λ i. (lawful_prop m e p.0 q.0 i, Coded-set (option_row reason_row).coded _ _ p.1 q.1 i)

pub stands_prop : (m : Memory) (b : Built) → IsProp (Stands m b)
stands_prop m b p q = λ i. record { built = built_set b (build (steps b)) p.built q.built i; lawful = lawful_prop m (steps b) p.lawful q.lawful i }
