use Rattle.std.proofs.Common.{◌≡◌, ℕ, suc, ◌<◌, List, [], ◌∷◌, length, get_or, refl, ap, ◌∙◌, arith, get_or-set_other, get_or-set_same, Bor}
use Rattle.std.proofs.lemmas.List.{nil_from_length}
use Rattle.steps.specs.Steps.{Name}
use Rattle.redbin.specs.Bytes.{number}
use Rattle.redbin.specs.Reading.{named_by}
use Rattle.load.specs.Tables.{table_of}
use Rattle.load_file.specs.declared.levels.LevelRecord.{LevelRecord}
use Rattle.load_file.specs.declared.levels.LevelRecord.TheVariants.{Unnamed, Named}
use Rattle.load_file.specs.Levels.{blank, names_left}
use Rattle.load_file.proofs.levels.Levels.next.Goals as goal

unnamed_next : (table : List Name) (r : LevelRecord) (n m : ℕ) → r ≡ Unnamed n → n ≡ suc m → names_left table r ≡ [] ∷ names_left table (Unnamed m)
unnamed_next table r n m e k = rw (e, k) refl

unnamed_end : (table : List Name) (r : LevelRecord) (n : ℕ) → r ≡ Unnamed n → n ≡ 0 → names_left table r ≡ []
unnamed_end table r n e k = rw (e, k) refl

named_end : (table : List Name) (r : LevelRecord) (is : Bor (List (List ℕ))) → r ≡ Named is → length is.now ≡ 0 → names_left table r ≡ []
unfolding named_by
named_end table r is e h = rw (e, nil_from_length is.now h)

named_next : (table : List Name) (r : LevelRecord) (is js : Bor (List (List ℕ))) (i : List ℕ) (n : Name) → r ≡ Named is → is.now ≡ i ∷ js.now → n ≡ get_or table (number i) [] → names_left table r ≡ n ∷ names_left table (Named js)
unfolding named_by
named_next table r is js i n e k h = rw (e, k, h)

pub returns-in_err-left-in-Unnamed : goal.returns-in_err-left-in-Unnamed
returns-in_err-left-in-Unnamed c =
    rw c.from_residual.ensures (unnamed_end (table_of c.args.symbols) _ c.in-Unnamed.left c.in-Unnamed.is (omega (arith, c.in_err-left-in-Unnamed.ensures)), refl)

pub returns-in_ok-left-in-Unnamed : goal.returns-in_ok-left-in-Unnamed
returns-in_ok-left-in-Unnamed c =
    let xs = c.args.self.now.records in
    let inside : c.args.at < length xs = omega (arith, c.args.self.now.many) in
    let left = c.in_ok-left-in-Unnamed.left in
    let same = get_or-set_same xs c.args.at (Unnamed left) blank inside in
    (rw same (unnamed_next (table_of c.args.symbols) _ c.in-Unnamed.left left c.in-Unnamed.is (omega (arith, c.in_ok-left-in-Unnamed.ensures))), (λ i ne. get_or-set_other xs c.args.at i _ blank ne), rw (same, c.in-Unnamed.is) (omega (arith, c.in_ok-left-in-Unnamed.ensures)))

pub returns-in_err-index-in-Named : goal.returns-in_err-index-in-Named
returns-in_err-index-in-Named c =
    rw c.from_residual-in_err-index-in-Named.ensures (named_end (table_of c.args.symbols) _ c.in-Named.indexes c.in-Named.is c.in_err-index-in-Named.ensures.cases, refl)

pub returns-in_ok-index-in-Named : goal.returns-in_ok-index-in-Named
returns-in_ok-index-in-Named c =
    let xs = c.args.self.now.records in
    let inside : c.args.at < length xs = omega (arith, c.args.self.now.many) in
    let rest = c.in_ok-index-in-Named.rest in
    let same = get_or-set_same xs c.args.at (Named rest) blank inside in
    let name = c.name.ensures ∙ ap (λ (i : ℕ). get_or (table_of c.args.symbols) i []) c.word.ensures in
    (rw same (named_next (table_of c.args.symbols) _ c.in-Named.indexes rest _ _ c.in-Named.is c.in_ok-index-in-Named.ensures.cases.0 name), (λ i ne. get_or-set_other xs c.args.at i _ blank ne), rw (same, c.in-Named.is) (_, c.in_ok-index-in-Named.ensures.cases.0))
