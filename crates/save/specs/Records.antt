-- What functions that write records ask.
use Rattle.std.specs.Prelude.{◌≡◌, ℕ, ◌+◌, min, Bool, List, [], ◌∷◌, ◌++◌, length, Some, None, Option}
use Rattle.redbin.specs.declared.form.Form.TheVariants.{ShareText, ShareList, ShareObject}
use Rattle.steps.specs.declared.parts.Share.{Share}
use Rattle.steps.specs.declared.parts.Share.TheVariants.{List as OfList, Text as OfText, Object as OfObject}
use Rattle.steps.specs.Outline.{Entry}
use Rattle.redbin.specs.Layout.{header}
use Rattle.redbin.specs.Canonical.{record_of}
use Rattle.save.specs.Values.{oldest}
use Rattle.save.specs.Sinks.{Output, full}

-- the payload starts behind so many bytes, and has this many so far
abbrev pub Placed : Output → ℕ → ℕ → Type 0
Placed o start place = o.size ≡ min (start + place) full

-- the words of a share before its reference
abbrev pub share_words : Bool → Share → List ℕ
share_words b (OfList k h) = header (ShareList k) b ∷ h ∷ []
share_words b (OfText k h) = header (ShareText k) b ∷ h ∷ []
share_words b (OfObject w) = header (ShareObject w) b ∷ []

-- the record of the value n, if there is one, where the payload has `place` bytes so far
abbrev pub recorded : List Entry → ℕ → ℕ → Option Entry → List ℕ
recorded all n place None = []
recorded all n place (Some x) = record_of all (oldest n all) place x.label x.begun

-- the records of values, the newest first, in a document whose values are `all`
unfoldable pub records : List Entry → List Entry → List ℕ
records all [] = []
records all (x ∷ xs) =
    let p = records all xs in
    p ++ record_of all xs (length p) x.label x.begun
