use mathlib.Core.Path.{◌≡◌, sym, subst}
use native.Mathlib.Numerals.{add-one}
use native.Mathlib.Omega.{arith}
use lib.ListN.{length}
use Rattle.rows.proofs.FirstBad.{GoodTo, bad_next, good_next, fine_good}
use Rattle.rows.proofs.is_fine.Goals as goal
use Rattle.rows.proofs.is_fine.Goals.{then-most-d, else-most-d}

pub loop-d-preserved : goal.loop-d-preserved
loop-d-preserved c = let inv = c.loop-d.invariant in
    let ds = c.args.depths.now in
    let i = c.loop-d.d-index in
    simp
    add-one (
      c.most_after-most.ensures,
      elim c.if-most-d.branch [
        | then-most-d w ↦ rw w.fine-is (bad_next ds i _ _ inv.0 inv.1 w.if-most-d.true)
        | else-most-d w ↦ rw w.fine-is (good_next ds i _ _ inv.0 inv.1 w.if-most-d.false)
      ],
    )

pub returns : goal.returns
returns c = let ds = c.args.depths.now in
    let inv = c.loop-d.invariant in
    let e : c.loop-d.d-index ≡ length ds = omega arith in
    (λ t. (fine_good ds).1 (subst (GoodTo ds) e (inv.1.0 t)), λ w. inv.1.1 (subst (GoodTo ds) (sym e) ((fine_good ds).0 w)))
