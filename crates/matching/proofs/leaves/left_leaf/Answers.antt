-- `matching::leaves::left_leaf` meets its contract, by the depths of row v and the row after it. Assumes nothing.
use mathlib.Core.Path.{sym, ◌∙◌}
use Prim.Native.Nat.{◌+◌}
use native.Mathlib.Omega.{arith}
use Rattle.matching.proofs.LeftLeaf.{deep_within, leaf_next, leaf_self}
use Rattle.matching.proofs.leaves.left_leaf.Goals as goal

pub leaf_of-requires : goal.leaf_of-requires
leaf_of-requires c = omega (arith, c.requires.2.root.few, deep_within c.args.depths.now c.depth_of.result (c.args.v + 1) (omega arith))

pub returns-then-depth_of : goal.returns-then-depth_of
returns-then-depth_of c = let rd = c.args.depths.now in
    let v = c.args.v in
    c.leaf_of.ensures
    ∙ c.requires.2.leaves (v + 1) (omega arith) (deep_within rd c.depth_of.result (v + 1) (omega arith))
    ∙ sym (leaf_next rd c.requires.1 v c.requires.0.0 (omega arith))

pub returns : goal.returns
returns c = sym (leaf_self c.args.depths.now c.args.v (omega arith))
