-- `matching::answering::place_of` meets its contract: the rows of the depth are counted back to the first shallower one. Assumes nothing.
use mathlib.Core.Path.{◌≡◌}
use Prim.Native.Nat.{◌≤◌, ◌+◌}
use Rattle.matching.specs.CornerRow.{count_back, place}
use Rattle.matching.proofs.answering.place_of.Given as goal

abbrev pub invariant-loop-i : goal.invariant-loop-i
invariant-loop-i l = (l.count + l.i ≤ l.w) × (l.count + count_back l.recipe l.d l.i ≡ place l.recipe l.w)
