-- Where the parts of a table's forest stand in the table. Assumes nothing.
use Rattle.std.specs.Prelude.{◌≡◌, List, ℕ, suc, ◌+◌, ◌≤◌, ◌<◌, length}
use Rattle.rows.specs.Rows.{descendants}
use Rattle.rows.specs.Forest.{Forest, nil, cons, size}

-- the entries of f are the rows after row z in their order, and below each entry stand just its descendants
abbrev pub Stands : List ℕ → ℕ → Forest ℕ → Type 0
Stands ds z nil = Unit {0}
Stands ds z (cons a f g) =
    (a ≡ suc z) × (z < length ds) × (descendants ds (suc z) ≡ size f) × Stands ds (suc z) f × Stands ds (suc (z + size f)) g

-- v is one of the n rows after row z
abbrev pub Among : ℕ → ℕ → ℕ → Type 0
Among z n v = (z < v) × (v ≤ z + n)
