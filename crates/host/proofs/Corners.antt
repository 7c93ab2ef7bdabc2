-- How large the numbers of a corner are: its width and its row count rows of the recipe. Assumes nothing.
use mathlib.Core.Path.{◌≡◌, refl}
use mathlib.Core.List.{List}
use Prim.Native.Nat.{ℕ, zero, suc, ◌+◌, ◌≤◌}
use native.Mathlib.Omega.{arith}
use lib.ListN.{length, drop, length-drop}
use Rattle.rows.specs.Rows.{depth}
use Rattle.rows.proofs.DescendantLaws.{descendants_within}
use Rattle.matching.specs.Family.{left_leaf}
use Rattle.matching.proofs.LeftLeaf.{descent_fits}
use Rattle.matching.specs.Corner.{corner_end, CornerIs, WholeCorner}

-- each subtree has a row at least
end_low : (ds : List ℕ) (v i : ℕ) → v + i ≤ corner_end ds v i
end_low ds v zero = omega arith
end_low ds v (suc i) = omega (arith, end_low ds v i)

leaf_fits : (ds : List ℕ) → left_leaf ds 1 ≤ suc (length ds)
leaf_fits ds = omega (arith, descent_fits (suc (depth ds 1)) (drop 1 ds), length-drop 1 ds)

-- the whole recipe has no more roots than rows
pub whole_width : (ds : List ℕ) (i v : ℕ) → WholeCorner ds i v → i ≤ length ds
whole_width ds i v w = omega (arith, w.1, end_low ds 0 i)

module _ (Fit : ℕ → ℕ → Type 0) (rd td : List ℕ) (i v : ℕ) (c : CornerIs Fit rd td i v) where
  pub corner_row : v ≤ suc (length rd)
  corner_row = omega (arith, c.path, leaf_fits rd)

  pub corner_width : i ≤ length rd
  corner_width = go i refl
    where
      go : (j : ℕ) → i ≡ j → i ≤ length rd
      go zero e = omega arith
      go (suc j) e = omega (arith, c.has j (omega arith), end_low rd v j, descendants_within rd v)
