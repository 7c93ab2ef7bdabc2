-- `matching::leaves::find_leaves` meets its contract. The loop's invariant: the rows after row i have their left-most leaves. Assumes nothing.
use Rattle.matching.specs.Linked.{Leaved}
use Rattle.matching.proofs.leaves.find_leaves.Given as goal

abbrev pub invariant-loop-i : goal.invariant-loop-i
invariant-loop-i l = Leaved l.depths l.shape l.i
