-- What the depths of a table say of its rows' descendants. Assumes nothing.
use mathlib.Core.Path.{◌≡◌}
use mathlib.Core.List.{List}
use Prim.Native.Nat.{ℕ, zero, suc, ◌+◌, ◌-◌, ◌≤◌, ◌<◌}
use native.Mathlib.Omega.{arith}
use native.Mathlib.Decide.{dec_lt}
use native.Mathlib.Nat.{lt_of_not-le, le_of_suc-le-suc}
use lib.ListN.{length, get_or, drop}
use lib.Seq.{get_or-drop}
use Rattle.rows.specs.Rows.{Row, depth, Outline, descendants, last_row}
use Rattle.rows.proofs.Deeper.{deeper_run, deeper_stop}
use Rattle.rows.proofs.DescendantLaws.{descendants_within}

-- the rows of a tree are in the table and deeper than its root, and the row behind it is not
pub last_fits : (ds : List ℕ) (v : ℕ) → Row ds v → last_row ds v ≤ length ds
last_fits ds v h = omega (arith, descendants_within ds v)

pub inside_deeper : (ds : List ℕ) (v w : ℕ) → 1 ≤ v → v < w → w ≤ last_row ds v → depth ds v < depth ds w
inside_deeper ds zero w a o h = absurd (omega arith)
inside_deeper ds (suc i) zero a o h = absurd (omega arith)
inside_deeper ds (suc i) (suc j) a o h =
    let e : suc i + (j - suc i) ≡ j = omega arith in
    rw (get_or-drop (suc i) ds (j - suc i) 0, e) at (deeper_run (get_or ds i 0) (drop (suc i) ds) (j - suc i) (omega arith))

pub after_shallow : (ds : List ℕ) (v : ℕ) → Row ds v → depth ds (suc (last_row ds v)) ≤ depth ds v
after_shallow ds zero h = absurd (omega arith)
after_shallow ds (suc i) h = rw (get_or-drop (suc i) ds (descendants ds (suc i)) 0) at (deeper_stop (get_or ds i 0) (drop (suc i) ds))

-- a row up to which all rows after v are deeper than v is in the tree at v
pub deeper_inside : (ds : List ℕ) (v w : ℕ) → Row ds v → v ≤ w → w ≤ length ds → ((x : ℕ) → v < x → x ≤ w → depth ds v < depth ds x) → w ≤ last_row ds v
deeper_inside ds v w r o h all = le_of_suc-le-suc (lt_of_not-le (λ u. omega (arith, after_shallow ds v r, all (suc (last_row ds v)) (omega arith) u)))

-- a tree within a tree ends no later
pub inside_ends : (ds : List ℕ) (v w : ℕ) → Row ds v → v ≤ w → w ≤ last_row ds v → last_row ds w ≤ last_row ds v
inside_ends ds v w r o h = go (dec_lt v w)
  where
    go : Dec (v < w) → last_row ds w ≤ last_row ds v
    go (no i) = let e : w ≡ v = omega arith in rw e (omega arith)
    go (yes i) =
        le_of_suc-le-suc
        (lt_of_not-le
        (λ u. omega (arith, after_shallow ds v r, inside_deeper ds v w r.0 i h, inside_deeper ds w (suc (last_row ds v)) (omega arith) (omega arith) u)))

-- depths fall as they like and rise by one a row
module _ (ds : List ℕ) (k : Outline ds) where
  pub slope : (v n : ℕ) → 1 ≤ v → v + n ≤ length ds → depth ds (v + n) ≤ depth ds v + n
  slope v zero a h = let e : v + 0 ≡ v = omega arith in rw e (omega arith)
  slope v (suc n) a h =
      let e : v + suc n ≡ suc (v + n) = omega arith in
      rw e (omega (arith, slope v n a (omega arith), k.step (v + n) (omega arith) (omega arith)))

  pub depth_under : (v : ℕ) → Row ds v → depth ds v < v
  depth_under v h =
      let e : 1 + (v - 1) ≡ v = omega arith in omega (arith, k.first (omega arith), rw e at (slope 1 (v - 1) (omega arith) (omega arith)))
