-- `matching::corners::forest_corners` and `matching::corners::tree_corners` meet their contract: the two corner functions find the corner of
-- every asked chain, or the row sought, note in the log what each tree includes of the path, and end by the rows left. Assumes nothing.
use Prim.Native.Nat.{◌+◌, ◌*◌, ◌-◌}
use lib.ListN.{length}
use Rattle.matching.specs.Asked.{path_chains}
use Rattle.matching.proofs.ForestJoins.{Sofar}
use Rattle.matching.proofs.corners.+forest_corners_tree_corners.Given as goal

abbrev pub decreases-forest_corners : goal.decreases-forest_corners
decreases-forest_corners l = 2 * (length l.question.now.depths.now - l.first) + 1

abbrev pub decreases-tree_corners : goal.decreases-tree_corners
decreases-tree_corners l = 2 * (length l.question.now.depths.now - l.first)

abbrev pub invariant-forest_corners-loop-at : goal.invariant-forest_corners-loop-at
invariant-forest_corners-loop-at l =
    Sofar l.question.shape.now l.question.labels.now l.question.depths.now l.question.names.now l.initial.work.asked l.initial.work.room l.initial.work.log l.base l.q
    (path_chains l.initial.work.asked) l.first l.work.asked l.work.room l.work.log l.at

abbrev pub decreases-forest_corners-loop-at : goal.decreases-forest_corners-loop-at
decreases-forest_corners-loop-at l = length l.depths - l.at
