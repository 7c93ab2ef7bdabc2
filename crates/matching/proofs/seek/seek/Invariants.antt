-- `matching::seek::seek` meets its contract: the row found is the first to close that holds the first row of the path. Assumes nothing.
use Prim.Native.Nat.{◌-◌}
use lib.ListN.{length}
use Rattle.matching.proofs.Sweeps.{Clear}
use Rattle.matching.proofs.seek.seek.Given as goal

abbrev pub invariant-loop-at : goal.invariant-loop-at
invariant-loop-at l =
    Clear l.question.shape.now l.question.labels.now l.question.depths.now l.question.names.now l.initial.work.asked l.initial.work.log l.k l.first
    l.work.asked l.work.room l.work.log l.at

abbrev pub decreases-loop-at : goal.decreases-loop-at
decreases-loop-at l = length l.question.depths.now - l.at
