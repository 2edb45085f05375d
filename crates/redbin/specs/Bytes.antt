-- Numbers as bytes and bits, and small tests on lists of numbers.
use Rattle.std.specs.Prelude.{ℕ, zero, suc, ◌+◌, ◌-◌, ◌*◌, ◌/◌, ◌%◌, ◌^◌, Bool, List, [], ◌∷◌, ◌++◌, replicate, nat_lt, bytes_eq}
use Rattle.std.specs.List.{list_all}

-- the number in which bit n alone is set; also the first number that does not fit n bits
abbrev pub bit : ℕ → ℕ
bit n = 2 ^ n

-- the number n in k bytes, the lowest byte first
unfoldable pub bytes_of : ℕ → ℕ → List ℕ
bytes_of zero n = []
bytes_of (suc k) n = n % 256 ∷ bytes_of k (n / 256)

-- the number that bytes, the lowest first, stand for
unfoldable pub number : List ℕ → ℕ
number [] = 0
number (b ∷ bs) = b + 256 * number bs

-- numbers, each in a field of k bytes
unfoldable pub fields : ℕ → List ℕ → List ℕ
fields k [] = []
fields k (n ∷ ns) = bytes_of k n ++ fields k ns

-- fields of four bytes
abbrev pub words : List ℕ → List ℕ
words ns = fields 4 ns

-- how many bytes n bytes lack to a multiple of m
abbrev pub fill : ℕ → ℕ → ℕ
fill m n = (m - n % m) % m

abbrev pub zeros : ℕ → List ℕ
zeros n = replicate n 0

-- all numbers of a list are below a limit
abbrev pub all_below : ℕ → List ℕ → Bool
all_below limit ns = list_all (λ n. nat_lt n limit) ns

-- two lists of numbers are the same
abbrev pub same : List ℕ → List ℕ → Bool
same xs ys = bytes_eq xs ys
