-- Each turn leaves the test of the rows behind, and the end the test of the row behind them. Assumes nothing.
use native.Mathlib.Omega.{arith}
use Rattle.std.proofs.lemmas.Bool.Decides.{nat_tests}
use Rattle.journal.proofs.Rises.{rise_turn, rise_last}
use Rattle.journal.proofs.judge.may_rise.Goals as goal
use Rattle.journal.proofs.judge.may_rise.Goals.{then-d-depth-via-then-d-depth, then-d-depth-via-else-d-depth+then-most-d, then-d-depth-via-else-d-depth+else-most-d+then-d-ge-DEEPEST}

pub returns-then-d-depth : goal.returns-then-d-depth
returns-then-d-depth c = let e = rise_turn c.args.behind.now c.loop-d.d-index c.loop-d.most c.args.depth c.args.below (omega arith) in
    elim c.then-d-depth.branch [
      | then-d-depth-via-then-d-depth w ↦ grind (arith, nat_tests, e)
      | then-d-depth-via-else-d-depth+then-most-d w ↦ grind (arith, nat_tests, e)
      | then-d-depth-via-else-d-depth+else-most-d+then-d-ge-DEEPEST w ↦ grind (arith, nat_tests, e)
    ]

pub loop-d-preserved : goal.loop-d-preserved
loop-d-preserved c = let e = rise_turn c.args.behind.now c.loop-d.d-index c.loop-d.most c.args.depth c.args.below (omega arith) in
    grind (arith, nat_tests, e)

pub returns-then-behind-below-2 : goal.returns-then-behind-below-2
returns-then-behind-below-2 c =
    let e = rise_last c.args.behind.now c.loop-d.d-index c.loop-d.most c.args.depth c.args.below (omega arith) (omega arith) in
    grind (arith, nat_tests, e)

pub returns-else-behind-below-2 : goal.returns-else-behind-below-2
returns-else-behind-below-2 c =
    let e = rise_last c.args.behind.now c.loop-d.d-index c.loop-d.most c.args.depth c.args.below (omega arith) (omega arith) in
    grind (arith, nat_tests, e)
