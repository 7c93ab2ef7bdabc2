-- What a window needs to be whole. Assumes nothing.
use Prim.Native.Nat.{ℕ}
use mathlib.Core.List.{List}
use native.Mathlib.Omega.{arith}
use lib.ListN.{length}
use Rattle.matching.specs.Window.{Whole}
use Rattle.rows.proofs.Depths.{last_fits}

-- the rows behind `first` rows, up to the end of the table, make a whole window
pub whole_behind : (td : List ℕ) (first : ℕ) → Whole td first (length td)
whole_behind td first = (omega arith, λ t low high. last_fits td t (omega arith, high))
