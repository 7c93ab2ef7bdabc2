-- `matching::corners::clear` meets its contract: the words of a level are all 0, and no other word moves. Assumes nothing.
use Rattle.matching.specs.Room.{Written}
use Rattle.matching.proofs.corners.clear.Given as goal

abbrev pub invariant-loop-i : goal.invariant-loop-i
invariant-loop-i l = Written l.initial.room l.base l.i (λ j. 0) l.room
