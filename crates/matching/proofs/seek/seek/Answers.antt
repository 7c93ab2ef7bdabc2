use native.Mathlib.Omega.{arith}
use Rattle.matching.proofs.AskedLaws.{asked_few}
use Rattle.matching.proofs.Sweeps.{sweep_none, sweep_sought, sweep_begins, sweep_next, sweep_less, sweep_found}
use Rattle.matching.proofs.seek.seek.Goals as goal

pub overflow_cast-k : goal.overflow_cast-k
overflow_cast-k c = omega (arith, asked_few _ _ _ c.requires.path.chains, c.args.question.now.ready.shape.few)

pub loop-at-init : goal.loop-at-init
loop-at-init c = rw c.seek_path.ensures (sweep_none c.args.question.now.ready c.requires.path c.args.work.now.size)

pub forest_corners-requires-clause-ready : goal.forest_corners-requires-clause-ready
forest_corners-requires-clause-ready c = let s = rw c.seek_path.ensures at c.loop-at.invariant in
    (omega (arith, c.loop-at-test.true, c.requires.held_deep.1.0), sweep_sought c.args.question.now.ready c.requires.path s c.requires.held_deep.0 c.requires.held_deep.1 c.loop-at-test.true)

pub forest_corners-requires-clause-begins : goal.forest_corners-requires-clause-begins
forest_corners-requires-clause-begins c = let s = rw c.seek_path.ensures at c.loop-at.invariant in
    sweep_begins c.args.question.now.ready c.requires.path s c.requires.held_deep.0 c.requires.held_deep.1 c.loop-at-test.true

pub returns-in-Break : goal.returns-in-Break
returns-in-Break c = let s = rw c.seek_path.ensures at c.loop-at.invariant in
    sweep_found c.args.question.now.ready c.requires.path s c.requires.held_deep.0 c.requires.held_deep.1 c.loop-at-test.true c.in-Break.ensures

pub loop-at-smaller : goal.loop-at-smaller
loop-at-smaller c = let s = rw c.seek_path.ensures at c.loop-at.invariant in
    sweep_less c.args.question.now.ready c.requires.path s c.requires.held_deep.0 c.requires.held_deep.1 c.loop-at-test.true c.in-Continue.ensures

pub loop-at-preserved : goal.loop-at-preserved
loop-at-preserved c = let s = rw c.seek_path.ensures at c.loop-at.invariant in
    rw c.seek_path.ensures (sweep_next c.args.question.now.ready c.requires.path s c.requires.held_deep.0 c.requires.held_deep.1 c.loop-at-test.true c.in-Continue.ensures)
