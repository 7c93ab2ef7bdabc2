-- `matching::corners::join_asked` meets its contract: every asked chain of a forest is joined with its chain in the rest. Assumes nothing.
use Rattle.matching.specs.Room.{Written, joined}
use Rattle.matching.proofs.corners.join_asked.Given as goal

abbrev pub invariant-loop-i : goal.invariant-loop-i
invariant-loop-i l = Written l.initial.room l.base l.i (joined l.question.shape.now l.question.labels.now l.asked l.initial.room l.base l.q) l.room
