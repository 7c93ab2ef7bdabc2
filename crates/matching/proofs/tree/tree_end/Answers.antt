use mathlib.Core.Path.{◌≡◌}
use lib.ListN.{length}
use native.Mathlib.Omega.{arith}
use Rattle.matching.proofs.Bare.{walk_end, walk_in}
use Rattle.matching.proofs.tree.tree_end.Goals as goal

pub returns-then-depths-end : goal.returns-then-depths-end
returns-then-depths-end g c =
    let w = c.loop-end.invariant in
    record { last = walk_end w (λ h. c.if-depths-end.true); tested = λ y a b. (w.rows y a b).1 }

pub returns-then-not-passes : goal.returns-then-not-passes
returns-then-not-passes g c = omega (arith, c.loop-end.invariant.start, walk_in c.loop-end.invariant c.loop-end-test.true c.if-depths-end.false)

pub returns : goal.returns
returns g c =
    let e : length c.args.depths.now ≡ c.loop-end.end = omega (arith, c.loop-end.invariant.fits) in
    let w = c.loop-end.invariant in
    rw e record { last = walk_end w (λ h. absurd (omega arith)); tested = λ y a b. (w.rows y a b).1 }
