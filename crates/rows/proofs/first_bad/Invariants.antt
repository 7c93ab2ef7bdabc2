-- `rows::first_bad` meets its contract: no row is bad, or the loop finds the first. The loop's invariant: the check of the rows from index i
-- on is the whole table's. Assumes nothing.
use mathlib.Core.Path.{◌≡◌}
use Prim.Native.Nat.{suc}
use lib.ListN.{drop}
use Rattle.rows.specs.FirstBad.{check_from, first_bad}
use Rattle.rows.proofs.first_bad.Given as goal

abbrev pub invariant-loop-i : goal.invariant-loop-i
invariant-loop-i l = check_from (suc l.i) l.most (drop l.i l.depths) ≡ first_bad l.depths
