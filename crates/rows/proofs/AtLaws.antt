-- What stands at row v of a slice, by the slice's index. Assumes nothing.
use mathlib.Core.Path.{◌≡◌}
use mathlib.Core.List.{List}
use Prim.Native.Nat.{ℕ, zero, suc, ◌-◌, ◌<◌, ◌≤◌}
use native.Mathlib.Omega.{arith}
use lib.ListN.{length, get_or, get_or-eq_default}
use Rattle.rows.specs.Rows.{at}

-- row v stands at index v - 1
pub at_row : (xs : List ℕ) (v : ℕ) → 1 ≤ v → at xs v ≡ get_or xs (v - 1) 0
at_row xs zero h = omega arith
at_row xs (suc i) h = let e : suc i - 1 ≡ i = omega arith in rw e

-- 0 where there is no such row
pub at_none : (xs : List ℕ) (v : ℕ) → length xs < v → at xs v ≡ 0
at_none xs zero h = omega arith
at_none xs (suc i) h = get_or-eq_default xs 0 (omega arith)
