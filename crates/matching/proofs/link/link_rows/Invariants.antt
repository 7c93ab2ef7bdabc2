-- `matching::link::link_rows` meets its contract: the rows up to row i are linked. Assumes nothing.
use Prim.Native.Nat.{suc}
use Rattle.matching.specs.Linked.{Linked}
use Rattle.matching.proofs.link.link_rows.Given as goal

abbrev pub invariant-loop-i : goal.invariant-loop-i
invariant-loop-i l = Linked l.depths l.shape (suc l.i)
