-- The rows kept of a table, by their first numbers, and the number that a row has among them. Assumes nothing.
use Rattle.std.specs.Prelude.{◌≡◌, Bool, true, false, ◌||◌, not, List, [], ◌∷◌, ℕ, suc, ◌≤◌, eqb}
use Rattle.journal.specs.Session.{rows_left}

abbrev pub more : Bool → ℕ → List ℕ → List ℕ
more true x xs = x ∷ xs
more false x xs = xs

-- the entries that pass a test, in their order
abbrev pub pick : (ℕ → Bool) → List ℕ → List ℕ
pick k [] = []
pick k (x ∷ xs) = more (k x) x (pick k xs)

-- u is one of the entries
abbrev pub mem : ℕ → List ℕ → Bool
mem u [] = false
mem u (x ∷ xs) = eqb u x || mem u xs

-- every row but u
abbrev pub but : ℕ → ℕ → Bool
but u w = not (eqb w u)

-- the place of u among the entries, from 1
abbrev pub place_of : ℕ → List ℕ → ℕ
place_of u [] = 1
place_of u (x ∷ xs) = elim (eqb u x) [ true ↦ 1 | false ↦ suc (place_of u xs) ]

-- rows by their first numbers, the one struck last first: each is named by the number that it has then
abbrev pub then_named : ℕ → List ℕ → List ℕ
then_named n [] = []
then_named n (o ∷ os) = place_of o (rows_left n (then_named n os)) ∷ then_named n os

-- different rows of n
abbrev pub Distinct : ℕ → List ℕ → Type 0
Distinct n [] = Unit {0}
Distinct n (o ∷ os) = (1 ≤ o) × (o ≤ n) × (mem o os ≡ false) × Distinct n os
