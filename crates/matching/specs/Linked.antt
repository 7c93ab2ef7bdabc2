-- A shape that is still being made: first the left-most leaves from the last row back, then the rest row by row from row 1 on.
-- Row 0's words are 0, but its right sibling is left open. Assumes nothing.
use Rattle.std.specs.Prelude.{◌≡◌, true, false, List, ℕ, zero, suc, ◌≤◌, ◌<◌, ltb, length}
use Rattle.rows.specs.Rows.{depth}
use Rattle.matching.specs.Family.{last_shallower, parent, right_sibling, left_leaf}
use Rattle.matching.specs.Shape.{word}

-- there are words for all rows, and row 0's are 0 but for its right sibling
pub record Rooted (rd ws : List ℕ) : Type 0 where
  pub few : length rd ≤ 256
  pub size : length ws ≡ 1156
  pub parent : word 0 ws 0 ≡ 0
  pub leaf : word 2 ws 0 ≡ 0
  pub depth : word 3 ws 0 ≡ 0

-- the left-most leaves of the rows after v stand
pub record Leaved (rd ws : List ℕ) (v : ℕ) : Type 0 where
  pub root : Rooted rd ws
  pub leaves : (u : ℕ) → v < u → u ≤ length rd → word 2 ws u ≡ left_leaf rd u

-- the last row before a row that is no deeper; 0 where there is none
abbrev pub no_deeper : List ℕ → ℕ → ℕ
no_deeper ds zero = 0
no_deeper ds (suc i) = last_shallower ds (suc (depth ds (suc i))) i

-- row w if it stands before row v, else 0
abbrev pub before : ℕ → ℕ → ℕ
before v w = elim (ltb w v) [ true ↦ w | false ↦ 0 ]

-- the parents and the depths of the rows before v stand
pub record Climbs (rd ws : List ℕ) (v : ℕ) : Type 0 where
  pub few : length rd ≤ 256
  pub parents : (u : ℕ) → u < v → word 0 ws u ≡ parent rd u
  pub depths : (u : ℕ) → u < v → word 3 ws u ≡ depth rd u

-- all left-most leaves stand, and of the rows before v the parents, the depths, and the right siblings that are before v too
pub record Linked (rd ws : List ℕ) (v : ℕ) : Type 0 where
  pub few : length rd ≤ 256
  pub size : length ws ≡ 1156
  pub parents : (u : ℕ) → u < v → word 0 ws u ≡ parent rd u
  pub rights : (u : ℕ) → 1 ≤ u → u < v → word 1 ws u ≡ before v (right_sibling rd u)
  pub leaves : (u : ℕ) → u ≤ length rd → word 2 ws u ≡ left_leaf rd u
  pub depths : (u : ℕ) → u < v → word 3 ws u ≡ depth rd u
