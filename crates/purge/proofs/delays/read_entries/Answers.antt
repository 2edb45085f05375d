use Rattle.std.proofs.Common.{◌≡◌, ◌<◌, true, List, [], ◌∷◌, ◌++◌, length, sym, subst, arith}
use Rattle.std.proofs.ByRecursion.{All-push}
use Rattle.std.proofs.lemmas.List.{length_push}
use Rattle.listing.specs.declared.pairs.Entry.{Entry}
use Rattle.listing.specs.Pairs.{pair_of, good}
use Rattle.purge.specs.Entries.{Listable}
use Rattle.purge.proofs.delays.read_entries.Goals as goal

-- one good entry more
listable_push : (es : List Entry) (e : Entry) → Listable es → length es < 16384 → good (pair_of e) ≡ true → Listable (es ++ e ∷ [])
listable_push es e l h g = (omega (arith, length_push es e), All-push _ es e l.1 g)

pub loop-words-preserved : goal.loop-words-preserved
loop-words-preserved c =
    let e = c.in_ok-entry.ensures in
    subst Listable (sym c.in_ok-push.ensures.items) (listable_push _ _ c.loop-words.invariant (rw (← c.as_slice.ensures.value) e.room) e.good)
