-- The rows of a chain, from a row down by first children: how deep they stand, and that they are in the tree of its first. Assumes nothing.
use mathlib.Core.Path.{◌≡◌}
use mathlib.Core.List.{List}
use Prim.Native.Nat.{ℕ, zero, suc, ◌+◌, ◌-◌, ◌≤◌, ◌<◌}
use native.Mathlib.Omega.{arith}
use Rattle.rows.specs.Rows.{Row, depth, Outline, last_row}
use Rattle.rows.proofs.Depths.{deeper_inside}
use Rattle.matching.specs.Family.{left_leaf}
use Rattle.matching.specs.CornerRow.{from_row, Chained}
use Rattle.matching.proofs.Cut.{levels}
use Rattle.matching.proofs.Level.{Level, level_of, leaf_level}

-- no row stands behind its left-most leaf
pub leaf_least : (ds : List ℕ) (v : ℕ) → v ≤ left_leaf ds v
leaf_least ds zero = omega arith
leaf_least ds (suc i) = omega arith

module _ (rd : List ℕ) (k : Outline rd) (x : ℕ) (r : Row rd x) where
  -- a row of the chain stands on one of the levels of its first row's tree
  pub chained_level : (v : ℕ) → Chained rd x v → v - x < levels (from_row rd x)
  chained_level v c = omega (arith, c.0, c.1, leaf_least rd v, leaf_level rd k x r)

  module _ (v : ℕ) (c : Chained rd x v) where
    here : Level rd k x (v - x)
    here = level_of rd k (v - x) x r (chained_level v c)

    place : x + (v - x) ≡ v
    place = omega (arith, c.0)

    pub chained_row : Row rd v
    chained_row = rw place at here.row

    pub chained_deep : depth rd v ≡ depth rd x + (v - x)
    chained_deep = rw place at here.deep

  -- so it is in that tree
  pub chained_inside : (v : ℕ) → Chained rd x v → v ≤ last_row rd x
  chained_inside v c = deeper_inside rd x v r c.0 (chained_row v c).1 (λ y a b. omega (arith, chained_deep y (between y a b)))
    where
      between : (y : ℕ) → x < y → y ≤ v → Chained rd x y
      between y a b =
          let e : x + (y - x) ≡ y = omega arith in
          (omega arith, rw e at (level_of rd k (y - x) x r (omega (arith, chained_level v c))).leaf)
