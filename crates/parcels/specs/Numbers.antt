-- Document 01, "The parcel": "all numbers little-endian", over the number's width in bytes. Assumes nothing.
use Rattle.std.specs.Prelude.{ℕ, zero, suc, ◌+◌, ◌*◌, ◌/◌, ◌%◌, List, [], ◌∷◌, ◌++◌, drop}

-- a number as w bytes, the lowest first
unfoldable pub le : ℕ → ℕ → List ℕ
le zero x = []
le (suc w) x = x % 256 ∷ le w (x / 256)

-- the number that the first w bytes make
unfoldable pub number : ℕ → List ℕ → ℕ
number zero bytes = 0
number (suc w) [] = 0
number (suc w) (b ∷ bytes) = b + 256 * number w bytes

-- numbers one after another, each as w bytes
unfoldable pub fields : ℕ → List ℕ → List ℕ
fields w [] = []
fields w (x ∷ xs) = le w x ++ fields w xs

-- the first n numbers of w bytes each
unfoldable pub numbers : ℕ → ℕ → List ℕ → List ℕ
numbers w zero bytes = []
numbers w (suc n) bytes = number w bytes ∷ numbers w n (drop w bytes)
