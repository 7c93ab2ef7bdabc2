use mathlib.Core.Path.{◌≡◌, sym, ◌∙◌}
use mathlib.Core.List.{List}
use Prim.Native.Nat.{ℕ, suc, ◌<◌}
use native.Mathlib.Omega.{arith}
use Rattle.rows.specs.Rows.{depth}
use Rattle.matching.specs.Family.{last_shallower}
use Rattle.matching.specs.Linked.{Climbs}
use Rattle.matching.specs.Shape.{word}
use Rattle.matching.proofs.Family.{parent_before}
use Rattle.matching.proofs.Siblings.{shallower_parent, deep_row}
use Rattle.matching.proofs.link.no_deeper.Goals as goal

-- from a row u before v that is deeper than d the search goes on at its parent
climb : {rd ws : List ℕ} {v u d e p : ℕ} → Climbs rd ws v → u < v → e ≡ word 3 ws u → d < e → p ≡ word 0 ws u
    → (p < u) × (last_shallower rd (suc d) p ≡ last_shallower rd (suc d) u)
climb {rd} {ws} {v} {u} {d} {e} {p} k o s h t =
    let deep : d < depth rd u = omega (arith, k.depths u o) in
    rw (t ∙ k.parents u o) (parent_before rd u (deep_row rd d u deep), sym (shallower_parent rd (suc d) u (omega arith)))

pub loop-u-smaller : goal.loop-u-smaller
loop-u-smaller c = (climb c.requires.1 c.loop-u.invariant.0 c.depth_of.ensures c.loop-u-test.true c.parent_of-u.ensures).0

pub loop-u-preserved : goal.loop-u-preserved
loop-u-preserved c = let up = climb c.requires.1 c.loop-u.invariant.0 c.depth_of.ensures c.loop-u-test.true c.parent_of-u.ensures in
    (omega arith, up.1 ∙ c.loop-u.invariant.1)
