use mathlib.Core.Path.{◌≡◌}
use Prim.Native.Nat.{◌+◌, ◌-◌}
use native.Mathlib.Omega.{arith}
use Rattle.matching.proofs.Linking.{leave_row}
use Rattle.matching.proofs.leaves.find_leaves.Goals as goal

pub loop-i-preserved : goal.loop-i-preserved
loop-i-preserved c = let e : c.loop-i.i - 1 + 1 ≡ c.loop-i.i = omega arith in
    rw e (leave_row c.args.depths.now c.shape.inside.rows c.shape.inside.kinds c.shape.invariant.0 c.shape.invariant.1 c.loop-i.i c.left_leaf-leaf.result (omega arith)
    (rw c.shape.view_is c.loop-i.invariant) (rw e at c.left_leaf-leaf.ensures))
