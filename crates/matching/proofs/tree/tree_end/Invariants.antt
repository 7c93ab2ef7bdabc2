-- `matching::tree::tree_end` meets its contract: the last row of a tree whose rows below the first pass a test. Assumes nothing.
use Prim.Native.Nat.{◌-◌}
use Rattle.std.specs.Prelude.{true}
use Rattle.matching.proofs.Bare.{Walk}
use Rattle.matching.proofs.tree.tree_end.Given as goal

abbrev pub invariant-loop-end : goal.invariant-loop-end
invariant-loop-end g l = Walk (λ y. goal.F-post g l.passes (y - 1) true) l.depths l.first l.end
