use native.Mathlib.Omega.{arith}
use mathlib.Core.Path.{◌≡◌, ap, ap₂, ◌∙◌}
use mathlib.Core.List.{List}
use Prim.Native.Nat.{ℕ, ◌+◌, ◌≤◌, ◌<◌}
use native.Mathlib.Numerals.{add-one}
use lib.ListN.{get_or}
use Rattle.matching.specs.CornerRow.{join_row}
use Rattle.matching.proofs.Written.{written_one, following_same}
use Rattle.matching.specs.Room.{recipe_of, joined, following}
use Rattle.matching.proofs.corners.join_asked.Goals as goal

-- what a join reads is what it was before the corners before it were written
module _ (ws asked rs ms : List ℕ) (base q i : ℕ) (l : i < q) (same : (j : ℕ) → base + i ≤ j → get_or ms j 0 ≡ get_or rs j 0) where
  after : following ws asked ms (base + q) (get_or ms (base + i) 0) ≡ following ws asked rs (base + q) (get_or rs (base + i) 0)
  after =
      following_same ws asked rs ms (base + q) (get_or ms (base + i) 0) (λ j h. same j (omega arith))
      ∙ ap (following ws asked rs (base + q)) (same (base + i) (omega arith))

  join : (rl : List ℕ) → joined ws rl asked ms base q i ≡ joined ws rl asked rs base q i
  join rl =
      ap (join_row (recipe_of ws rl) (get_or ms (base + i) 0) (get_or ms (base + q + i) 0)) after
      ∙ ap₂ (λ (a b : ℕ). join_row (recipe_of ws rl) a b (following ws asked rs (base + q) (get_or rs (base + i) 0))) (same (base + i) (omega arith))
      (same (base + q + i) (omega arith))

pub join_row-w-requires-clause-a_in_bounds : goal.join_row-w-requires-clause-a_in_bounds
join_row-w-requires-clause-a_in_bounds c =
    let k = c.requires.by_index c.loop-i.i c.loop-i-test.true in
    let same = c.loop-i.invariant.after in
    rw (c.at-a.ensures, c.at-b.ensures) (
      omega (arith, k.left, same (c.args.base + c.loop-i.i) (omega arith)),
      omega (arith, k.tree, same (c.args.base + c.args.q + c.loop-i.i) (omega arith)),
      omega (arith, k.next, after c.args.question.now.shape.now c.args.asked.now _ _ c.args.base _ _ c.loop-i-test.true same),
    )

pub loop-i-preserved : goal.loop-i-preserved
loop-i-preserved c =
    let q = c.args.question.now in
    rw (add-one, c.set.ensures.1) (written_one c.args.room.now c.args.base (joined q.shape.now q.labels.now c.args.asked.now c.args.room.now c.args.base c.args.q) c.loop-i.i
    c.loop-i.room c.join_row-w.result (omega (arith, c.requires.q_le_z, c.set.ensures.0, c.loop-i.invariant.size)) c.loop-i.invariant
    (rw (c.at-a.ensures, c.at-b.ensures) at c.join_row-w.ensures ∙ join q.shape.now c.args.asked.now _ _ c.args.base _ _ c.loop-i-test.true c.loop-i.invariant.after q.labels.now))
