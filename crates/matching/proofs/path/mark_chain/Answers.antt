use mathlib.Core.Path.{sym, ◌∙◌}
use Prim.Native.Nat.{suc}
use native.Mathlib.Omega.{arith}
use native.Mathlib.Numerals.{add-one}
use Rattle.matching.proofs.Asking.{shape_of, inner_row, marks_wide, chaining_next}
use Rattle.matching.proofs.path.mark_chain.Goals as goal

pub returns-then-leaf_of-place : goal.returns-then-leaf_of-place
returns-then-leaf_of-place c = marks_wide _ _ _ _ 63 _ _ (omega arith) c.loop-place.invariant.marks

pub loop-place-preserved : goal.loop-place-preserved
loop-place-preserved c = let i = c.loop-place.invariant in
    let q = c.args.question.now in
    let s = shape_of q.ready q.same in
    let e = rw (add-one c.loop-place.place) at c.leaf_of.ensures in
    let inner = inner_row q.recipe.now s.1 (suc c.loop-place.place) i.row
    (λ z. c.if-leaf_of-place.false (e ∙ s.0.leaves (suc c.loop-place.place) i.row.1 ∙ z ∙ sym (add-one c.loop-place.place))) in
    rw (add-one c.loop-place.place) (chaining_next q.recipe.now s.1 c.args.map.now c.loop-place.map c.loop-place.place c.requires.1 i inner)

pub returns : goal.returns
returns c = marks_wide _ _ _ _ 63 _ _ (omega arith) c.loop-place.invariant.marks
