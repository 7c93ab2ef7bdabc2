-- `matching::corners::join_leaf` meets its contract: a row below which nothing is found is joined to what is known. Assumes nothing.
use Rattle.matching.specs.Room.{Written, joined_alone}
use Rattle.matching.proofs.corners.join_leaf.Given as goal

abbrev pub invariant-loop-i : goal.invariant-loop-i
invariant-loop-i l = Written l.initial.room l.base l.i (joined_alone l.question.shape.now l.question.labels.now l.name l.asked l.initial.room l.base) l.room
