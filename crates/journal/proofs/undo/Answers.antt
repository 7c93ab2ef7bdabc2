-- The row returns at a place of the used rows, and the rows that were its descendants may gain one. Assumes nothing.
use mathlib.Core.Path.{◌∙◌, sym, ap}
use Prim.Native.Nat.{suc, ◌+◌, ◌-◌}
use native.Mathlib.Omega.{arith}
use native.Mathlib.Numerals.{add-one}
use Rattle.journal.specs.Lent.{Lent}
use Rattle.journal.proofs.Verdicts.{undo_done}
use Rattle.journal.proofs.Shifts.{changed_here, changed_turn, changed_end}
use Rattle.journal.proofs.Returned.{row_first, row_last, shallow, rows_fit, rows_low, depths_undone}
use Rattle.journal.proofs.undo.Goals as goal

pub overflow_sub-first : goal.overflow_sub-first
overflow_sub-first c = omega (arith, row_first _ _ c.in_ok-undo_verdict.ensures.returnable c.read-entry.ensures)

pub slice_bounds-depth-items-end : goal.slice_bounds-depth-items-end
slice_bounds-depth-items-end c = let k = c.in_ok-undo_verdict.ensures.returnable in
    omega (arith, rows_fit _ _ k c.read-entry.ensures)

pub overflow_add-depth : goal.overflow_add-depth
overflow_add-depth c = let k = c.in_ok-undo_verdict.ensures.returnable in
    let first = c.read-entry.result.row - 1 in
    let i = c.loop-depth.depth-index in
    let here = changed_here suc first _ i c.args.depths.now _ c.loop-depth-test.true c.loop-depth.invariant in
    omega (arith, here, rows_low _ _ k c.read-entry.ensures (first + i) (omega arith) (omega (arith, here)))

pub loop-depth-preserved : goal.loop-depth-preserved
loop-depth-preserved c = changed_turn suc c.loop-depth.depth-index _ _ c.loop-depth.depth-items c.loop-depth-test.true c.loop-depth.invariant (add-one _)

pub overflow_cast-entry : goal.overflow_cast-entry
overflow_cast-entry c = omega (arith, shallow _ _ c.in_ok-undo_verdict.ensures.returnable c.read-entry.ensures)

pub open-requires : goal.open-requires
open-requires c = let k = c.in_ok-undo_verdict.ensures.returnable in
    let t = c.read-entry.ensures in
    (row_first _ _ k t, row_last _ _ k t, omega arith)

pub open-requires-2 : goal.open-requires-2
open-requires-2 c = let k = c.in_ok-undo_verdict.ensures.returnable in
    let t = c.read-entry.ensures in
    (row_first _ _ k t, row_last _ _ k t, omega arith)

pub returns-clause-depths : goal.returns-clause-depths
returns-clause-depths c = let k = c.in_ok-undo_verdict.ensures.returnable in
    let t = c.read-entry.ensures in
    let first = c.read-entry.result.row - 1 in
    let all = changed_end suc first c.read-entry.result.below _ c.args.depths.now c.loop-depth.depth-items c.loop-depth-test.false c.loop-depth.invariant in
    depths_undone _ _ k t _ _ all c.open.ensures ∙ ap (λ (t : Lent). t.depths) (sym (undo_done _ k))
