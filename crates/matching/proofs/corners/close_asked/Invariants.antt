-- `matching::corners::close_asked` meets its contract: every asked chain of a tree is closed over its root. Assumes nothing.
use Rattle.matching.specs.Room.{Written, closed}
use Rattle.matching.proofs.corners.close_asked.Given as goal

abbrev pub invariant-loop-i : goal.invariant-loop-i
invariant-loop-i l = Written l.initial.room l.base l.i (closed l.question.shape.now l.question.labels.now l.name l.asked l.initial.room l.base) l.room
