-- The descendants lie within the used rows, each below depth 0. Assumes nothing.
use mathlib.Core.Path.{◌∙◌, refl, sym, ap}
use Prim.Native.Nat.{◌+◌, ◌-◌}
use native.Mathlib.Omega.{arith}
use Rattle.journal.specs.Lent.{Lent}
use Rattle.journal.proofs.Verdicts.{strike_done}
use Rattle.journal.proofs.Carried.{below_fits, below_deep, entry_label, entry_depth, depths_struck}
use Rattle.journal.proofs.Shifts.{changed_here, changed_turn, changed_end}
use Rattle.journal.proofs.strike.Goals as goal

pub write-requires-clause-fits : goal.write-requires-clause-fits
write-requires-clause-fits c = let k = c.in_ok-strike_verdict.ensures.strikable in
    let b = below_fits _ _ _ k c.descendants_of-below.ensures in
    (omega (arith, k.sound.capacity), omega (arith, k.sound.capacity))

pub overflow_add-depth-items : goal.overflow_add-depth-items
overflow_add-depth-items c = let k = c.in_ok-strike_verdict.ensures.strikable in
    omega (arith, below_fits _ _ _ k c.descendants_of-below.ensures)

pub slice_bounds-depth-items-end : goal.slice_bounds-depth-items-end
slice_bounds-depth-items-end c = let k = c.in_ok-strike_verdict.ensures.strikable in
    omega (arith, below_fits _ _ _ k c.descendants_of-below.ensures)

pub overflow_sub-depth : goal.overflow_sub-depth
overflow_sub-depth c = let k = c.in_ok-strike_verdict.ensures.strikable in
    let i = c.loop-depth.depth-index in
    let here = changed_here (λ d. d - 1) c.args.row _ i c.args.depths.now _ c.loop-depth-test.true c.loop-depth.invariant in
    omega (arith, here, below_deep _ _ _ k c.descendants_of-below.ensures (c.args.row + i) (omega arith) (omega (arith, here)))

pub loop-depth-preserved : goal.loop-depth-preserved
loop-depth-preserved c = changed_turn (λ d. d - 1) c.loop-depth.depth-index _ _ c.loop-depth.depth-items c.loop-depth-test.true c.loop-depth.invariant refl

pub returns-clause-depths : goal.returns-clause-depths
returns-clause-depths c = let k = c.in_ok-strike_verdict.ensures.strikable in
    let told = c.descendants_of-below.ensures in
    let all = changed_end (λ d. d - 1) c.args.row c.descendants_of-below.result _ c.args.depths.now c.loop-depth.depth-items c.loop-depth-test.false c.loop-depth.invariant in
    depths_struck _ _ _ k told _ _ all c.close.ensures ∙ ap (λ (t : Lent). t.depths) (sym (strike_done _ _ k))

pub returns-clause-journal : goal.returns-clause-journal
returns-clause-journal c = let k = c.in_ok-strike_verdict.ensures.strikable in
    let told = c.descendants_of-below.ensures in
    c.write.ensures
    ∙ rw (c.from.ensures, entry_label _ _ _ k told, entry_depth _ _ _ k told, told)
    (ap (λ (t : Lent). t.journal) (sym (strike_done _ _ k)))
