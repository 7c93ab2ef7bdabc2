-- `matching::path::widest_child` meets its contract: whichever child is chosen is a child. Assumes nothing.
use Prim.Native.Nat.{◌≤◌}
use lib.ListN.{length}
use Rattle.matching.proofs.Asking.{Child, rows_from}
use Rattle.matching.proofs.path.widest_child.Given as goal

abbrev pub invariant-loop-c : goal.invariant-loop-c
invariant-loop-c l = Child l.question.recipe.now l.u l.best × (1 ≤ l.c → Child l.question.recipe.now l.u l.c)

abbrev pub decreases-loop-c : goal.decreases-loop-c
decreases-loop-c l = rows_from (length l.question.recipe.now) l.c
