-- Document 01, "Program and C entry": the line forms `included W V M..`, `absent W V`, `refused N P`; "Single spaces, one newline". Assumes nothing.
use Rattle.std.specs.Prelude.{true, false, List, [], ◌∷◌, ◌++◌, ℕ, zero, suc, ◌+◌, ◌/◌, ◌%◌, ltb}

-- the byte of a decimal digit, of a space and of a newline
abbrev pub digit : ℕ → ℕ
digit d = 48 + d

abbrev pub space : ℕ
space = 32

abbrev pub newline : ℕ
newline = 10

-- the decimal digits of a number, by at most so many divisions by ten
abbrev pub digits_in : ℕ → ℕ → List ℕ
digits_in zero n = digit n ∷ []
digits_in (suc k) n = elim (ltb n 10) [ true ↦ digit n ∷ [] | false ↦ digits_in k (n / 10) ++ (digit (n % 10) ∷ []) ]

-- the decimal digits of a number, without leading zeros
unfoldable pub digits : ℕ → List ℕ
digits n = digits_in n n

-- numbers, each after a single space
unfoldable pub spaced : List ℕ → List ℕ
spaced [] = []
spaced (n ∷ ns) = (space ∷ digits n) ++ spaced ns

-- a line: a word, its numbers, one newline
unfoldable pub line : List ℕ → List ℕ → List ℕ
line word numbers = word ++ (spaced numbers ++ (newline ∷ []))

-- `included`, `absent`, `refused`
abbrev pub included_word : List ℕ
included_word = 105 ∷ 110 ∷ 99 ∷ 108 ∷ 117 ∷ 100 ∷ 101 ∷ 100 ∷ []

abbrev pub absent_word : List ℕ
absent_word = 97 ∷ 98 ∷ 115 ∷ 101 ∷ 110 ∷ 116 ∷ []

abbrev pub refused_word : List ℕ
refused_word = 114 ∷ 101 ∷ 102 ∷ 117 ∷ 115 ∷ 101 ∷ 100 ∷ []
