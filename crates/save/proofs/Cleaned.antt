-- The symbols of a document have no zero.
use Rattle.std.proofs.Common.{ℕ, Bool, true, false, cond, List, [], ◌∷◌, ◌++◌, length}
use Rattle.steps.specs.declared.parts.Node.{Node}
use Rattle.steps.specs.declared.parts.Node.TheVariants.{At}
use Rattle.steps.specs.declared.parts.Holder.TheVariants.{List as OfList, Object as OfObject}
use Rattle.steps.specs.Steps.{Name, Begun, put, open', share}
use Rattle.steps.specs.Outline.{Entry, same_holder, inner_names}
use Rattle.redbin.specs.Bytes.{same}
use Rattle.redbin.specs.Canonical.{without, once, names_if_object, written_names, symbols}
use Rattle.save.specs.Symbols.{Clean}
use Rattle.save.proofs.Sane.{Fine}

clean_append : (ns ms : List Name) → Clean ns → Clean ms → Clean (ns ++ ms)
clean_append [] ms p q = q
clean_append (n ∷ ns) ms p q = (p.0, clean_append ns ms p.1 q)

clean_inner : (xs : List Entry) (h : Node) → Fine xs → Clean (inner_names xs h)
unfolding inner_names
clean_inner [] h f = tt
clean_inner (x ∷ xs) h f = clean_append (inner_names xs h) _ (clean_inner xs h f.0) (last (same_holder x.holder h)) where
  last : (b : Bool) → Clean (cond b (x.label.name ∷ []) [])
  last true = (f.2, tt)
  last false = tt

clean_object : (all : List Entry) (n : ℕ) (b : Begun) → Fine all → Clean (names_if_object all n b)
clean_object all n (put v) f = tt
clean_object all n (open' (OfList k h)) f = tt
clean_object all n (open' (OfObject w s c t a)) f = clean_inner all (At n) f
clean_object all n (share s t) f = tt

clean_written : (all xs : List Entry) → Fine all → Clean (written_names all xs)
unfolding written_names
clean_written all [] f = tt
clean_written all (x ∷ xs) f = clean_append (written_names all xs) _ (clean_written all xs f) (clean_object all (length xs) x.begun f)

clean_without : (n : Name) (ms : List Name) → Clean ms → Clean (without n ms)
unfolding without
clean_without n [] c = tt
clean_without n (m ∷ ms) c = go (clean_without n ms c.1) (same m n) where
  go : Clean (without n ms) → (b : Bool) → Clean (cond b (without n ms) (m ∷ without n ms))
  go ih true = ih
  go ih false = (c.0, ih)

clean_once : (ns : List Name) → Clean ns → Clean (once ns)
unfolding once
clean_once [] c = tt
clean_once (n ∷ ns) c = (c.0, clean_without n (once ns) (clean_once ns c.1))

pub clean_symbols : (all : List Entry) → Fine all → Clean (symbols all)
unfolding symbols
clean_symbols all f = clean_once (written_names all all) (clean_written all all f)
