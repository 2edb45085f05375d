-- What callers give, as steps have it.
use Rattle.std.specs.Prelude.{ℕ, List}
use denote.Bor.{Bor}
use Rattle.steps.specs.declared.parts.Label.{Label}
use Rattle.steps.specs.declared.parts.Content.{Content as Value}
use Rattle.steps.specs.declared.parts.Content.TheVariants.{Nothing, Logic, Char, Integer, Float, Text}
use Rattle.steps.specs.declared.parts.Begun.{Begun as Item}
use Rattle.steps.specs.declared.parts.Begun.TheVariants.{Put, Open, Share}
use Rattle.steps.specs.declared.parts.Entry.{Entry as Given}
use Rattle.steps.specs.Outline.{Entry}
use Rattle.steps.specs.Steps.{Tag, Content, none, logic, char, integer, float, text, Begun, put, open', share}

abbrev pub tag : Label → Tag
tag l = record { new_line = l.new_line; name = l.name.now }

abbrev pub content : Value (Bor (List ℕ)) → Content
content Nothing = none
content (Logic b) = logic b
content (Char n) = char n
content (Integer z) = integer z
content (Float n) = float n
content (Text k h ps) = text k h ps.now

abbrev pub begun : Item (Bor (List ℕ)) → Begun
begun (Put v) = put (content v)
begun (Open h) = open' h
begun (Share s t) = share s t

abbrev pub entry : Given → Entry
entry x = record { label = tag x.label; begun = begun x.item; holder = x.holder }

-- the same value with its codepoints given in another way
abbrev pub mapped : {C D : Type 0} → (C → D) → Value C → Value D
mapped f Nothing = Nothing
mapped f (Logic b) = Logic b
mapped f (Char n) = Char n
mapped f (Integer z) = Integer z
mapped f (Float n) = Float n
mapped f (Text k h c) = Text k h (f c)

-- a fact about the codepoints of a text
abbrev pub InText : {C : Type 0} → (C → Type 0) → Value C → Type 0
InText P Nothing = Unit {0}
InText P (Logic b) = Unit {0}
InText P (Char n) = Unit {0}
InText P (Integer z) = Unit {0}
InText P (Float n) = Unit {0}
InText P (Text k h c) = P c
