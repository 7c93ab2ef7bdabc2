-- `matching::corners::first_place` meets its contract: no corner before the first that tells of the path does. Assumes nothing.
use Prim.Native.Nat.{ℕ, ◌+◌, ◌<◌}
use lib.ListN.{get_or}
use Rattle.matching.specs.Path.{Met}
use Rattle.matching.proofs.corners.first_place.Given as goal

abbrev pub invariant-loop-i : goal.invariant-loop-i
invariant-loop-i l = (j : ℕ) → j < l.i → Met l.shape l.asked l.k j (get_or l.room (l.base + j) 0) → ⊥
