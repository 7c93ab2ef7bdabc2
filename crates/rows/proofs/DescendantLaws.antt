-- The number of a row's descendants: the rows deeper than it, counted along the table from the row after it. Assumes nothing.
use mathlib.Core.Path.{◌≡◌}
use mathlib.Core.List.{List}
use Prim.Native.Nat.{ℕ, zero, suc, ◌-◌, ◌<◌, ◌≤◌}
use native.Mathlib.Omega.{arith}
use lib.ListN.{length, get_or, drop, length-drop}
use lib.Seq.{drop-cons}
use Rattle.rows.specs.Rows.{deeper, descendants}
use Rattle.rows.proofs.Deeper.{deeper_lt, deeper_fits}

-- the descendants of a row are counted from the row after it
pub descendants_row : (ds : List ℕ) (v : ℕ) → 1 ≤ v → descendants ds v ≡ deeper (get_or ds (v - 1) 0) (drop v ds)
descendants_row ds zero h = omega arith
descendants_row ds (suc i) h = let e : suc i - 1 ≡ i = omega arith in rw e

-- a row deeper than d at index i counts
pub count_on : (ds : List ℕ) (d i : ℕ) → i < length ds → d < get_or ds i 0 → deeper d (drop i ds) ≡ suc (deeper d (drop (suc i) ds))
count_on ds d i h p = rw (drop-cons ds i 0 h) (deeper_lt d _ (drop (suc i) ds) p)

-- a row has no more descendants than there are rows after it
pub descendants_within : (ds : List ℕ) (v : ℕ) → descendants ds v ≤ length ds - v
descendants_within ds zero = omega arith
descendants_within ds (suc i) = omega (arith, deeper_fits (get_or ds i 0) (drop (suc i) ds), length-drop (suc i) ds)
