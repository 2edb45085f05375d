-- Well-formed UTF-8, by Unicode's table of the byte sequences that are, and names.
use Rattle.std.specs.Prelude.{ℕ, Bool, true, cond, ◌&&◌, ◌||◌, List, [], ◌∷◌, length, ◌==◌, nat_le, nat_lt}
use Rattle.std.specs.List.{list_all}

abbrev pub within : ℕ → ℕ → ℕ → Bool
within low high b = nat_le low b && nat_le b high

abbrev pub trail : ℕ → Bool
trail b = within 0x80 0xBF b

-- a character of one byte
abbrev pub one : ℕ → Bool
one a = within 0 0x7F a

-- of two
abbrev pub two : ℕ → ℕ → Bool
two a b = within 0xC2 0xDF a && trail b

-- of three: no overlong form after E0, no surrogate after ED
abbrev pub three : ℕ → ℕ → ℕ → Bool
three a b c =
    ((a == 0xE0 && within 0xA0 0xBF b) || ((within 0xE1 0xEC a && trail b) || ((a == 0xED && within 0x80 0x9F b) || (within 0xEE 0xEF a && trail b)))) && trail c

-- of four: no overlong form after F0, nothing above 10FFFF after F4
abbrev pub four : ℕ → ℕ → ℕ → ℕ → Bool
four a b c d =
    ((a == 0xF0 && within 0x90 0xBF b) || ((within 0xF1 0xF3 a && trail b) || (a == 0xF4 && within 0x80 0x8F b))) && (trail c && trail d)

-- a text is characters one after another
abbrev pub utf8 : List ℕ → Bool
utf8 [] = true
utf8 (a ∷ []) = one a
utf8 (a ∷ b ∷ []) = cond (one a) (utf8 (b ∷ [])) (two a b)
utf8 (a ∷ b ∷ c ∷ []) = cond (one a) (utf8 (b ∷ c ∷ [])) (cond (two a b) (utf8 (c ∷ [])) (three a b c))
utf8 (a ∷ b ∷ c ∷ d ∷ rest) =
    cond (one a) (utf8 (b ∷ c ∷ d ∷ rest)) (cond (two a b) (utf8 (c ∷ d ∷ rest)) (cond (three a b c) (utf8 (d ∷ rest)) (four a b c d && utf8 rest)))

abbrev pub no_zero : List ℕ → Bool
no_zero = list_all (λ b. nat_lt 0 b)

-- the name of a value in an object
abbrev pub lawful_name : List ℕ → Bool
lawful_name n = nat_lt 0 (length n) && (nat_le (length n) 255 && (no_zero n && utf8 n))
