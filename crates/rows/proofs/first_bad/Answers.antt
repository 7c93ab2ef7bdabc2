use mathlib.Core.Path.{sym}
use native.Mathlib.Numerals.{add-one}
use native.Mathlib.Omega.{arith}
use Rattle.rows.proofs.FirstBad.{fine_iff}
use Rattle.rows.proofs.CheckLaws.{check_step, check_deep, check_good, check_end}
use Rattle.rows.proofs.first_bad.Goals as goal

pub returns-then-is_fine : goal.returns-then-is_fine
returns-then-is_fine c = sym ((fine_iff c.args.depths.now).1 (c.is_fine.ensures.0 c.if-is_fine.true))

pub returns-then-most-d : goal.returns-then-most-d
returns-then-most-d c = rw add-one (cc (check_step c.args.depths.now _ _ c.loop-i-test.true c.if-most-d.true))

pub returns-then-d-gt-DEEPEST : goal.returns-then-d-gt-DEEPEST
returns-then-d-gt-DEEPEST c = rw add-one (cc (check_deep c.args.depths.now _ _ c.loop-i-test.true c.if-most-d.false (omega arith)))

pub loop-i-preserved : goal.loop-i-preserved
loop-i-preserved c = let good = check_good c.args.depths.now _ _ c.loop-i-test.true c.if-most-d.false (omega arith) in simp add-one (cc)

pub returns : goal.returns
returns c = cc (check_end c.args.depths.now _ _ c.loop-i-test.false)
