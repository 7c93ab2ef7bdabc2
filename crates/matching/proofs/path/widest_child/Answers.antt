use mathlib.Core.Path.{◌∙◌}
use native.Mathlib.Omega.{arith}
use native.Mathlib.Numerals.{add-one}
use Rattle.matching.proofs.Asking.{shape_of, Child, first_child, next_child}
use Rattle.matching.proofs.path.widest_child.Goals as goal
use Rattle.matching.proofs.path.widest_child.Goals.{then-most-below, else-most-below}

pub loop-c-init : goal.loop-c-init
loop-c-init c = let q = c.args.question.now in
    let f = first_child q.recipe.now (shape_of q.ready q.same).1 c.args.u c.requires.0 c.requires.1 in
    rw (add-one c.args.u) (f, λ o. f)

pub loop-c-preserved : goal.loop-c-preserved
loop-c-preserved c =
    let q = c.args.question.now in
    let here : Child q.recipe.now c.args.u c.loop-c.c = c.loop-c.invariant.1 (omega (arith, c.loop-c-test.true)) in
    let e = c.right_of-c.ensures ∙ (shape_of q.ready q.same).0.rights _ here.0.1 in (
      elim c.if-most-below.branch [ then-most-below w ↦ rw w.best-is here | else-most-below w ↦ rw w.best-is c.loop-c.invariant.0 ],
      λ o. rw e (next_child q.recipe.now c.args.u _ here (rw e at o)).0,
    )
