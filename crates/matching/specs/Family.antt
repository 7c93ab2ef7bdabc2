-- The rows about a row, by the depths alone; 0 where there is none. Assumes nothing.
use Rattle.std.specs.Prelude.{true, false, ◌&&◌, List, [], ◌∷◌, ℕ, zero, suc, ◌+◌, ltb, eqb, length, drop}
use Rattle.rows.specs.Rows.{depth, last_row}

-- the last of the rows 1 to n that is shallower than d
abbrev pub last_shallower : List ℕ → ℕ → ℕ → ℕ
last_shallower ds d zero = 0
last_shallower ds d (suc n) = elim (ltb (depth ds (suc n)) d) [ true ↦ suc n | false ↦ last_shallower ds d n ]

-- the parent of a row: the last row before it that is shallower
abbrev pub parent : List ℕ → ℕ → ℕ
parent ds zero = 0
parent ds (suc i) = last_shallower ds (depth ds (suc i)) i

-- the left sibling: the last row before it that is no deeper, if that one is as deep
abbrev pub left_sibling : List ℕ → ℕ → ℕ
left_sibling ds zero = 0
left_sibling ds (suc i) =
    elim (eqb (depth ds (last_shallower ds (suc (depth ds (suc i))) i)) (depth ds (suc i))) [
      | true ↦ last_shallower ds (suc (depth ds (suc i))) i
      | false ↦ 0
    ]

-- the right sibling: the row behind its tree, if that one is as deep
abbrev pub right_sibling : List ℕ → ℕ → ℕ
right_sibling ds zero = 0
right_sibling ds (suc i) =
    elim (ltb (last_row ds (suc i)) (length ds) && eqb (depth ds (suc (last_row ds (suc i)))) (depth ds (suc i))) [
      | true ↦ suc (last_row ds (suc i))
      | false ↦ 0
    ]

-- how many rows, from the first on, have the depths d, d + 1, d + 2 and so on
abbrev pub descent : ℕ → List ℕ → ℕ
descent d [] = 0
descent d (e ∷ es) = elim (eqb e d) [ true ↦ suc (descent (suc d) es) | false ↦ 0 ]

-- the left-most leaf of the tree at a row: first child by first child, as long as there is one
abbrev pub left_leaf : List ℕ → ℕ → ℕ
left_leaf ds zero = 0
left_leaf ds (suc i) = suc i + descent (suc (depth ds (suc i))) (drop (suc i) ds)
