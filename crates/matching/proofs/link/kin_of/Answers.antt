-- `matching::link::kin_of` meets its contract, by the last row before v that is no deeper and its words. Assumes nothing.
use mathlib.Core.Path.{◌≡◌, sym, ap, ◌∙◌}
use mathlib.Core.List.{List}
use Prim.Native.Nat.{ℕ, ◌<◌}
use native.Mathlib.Omega.{arith}
use Rattle.rows.specs.Rows.{Row, depth}
use Rattle.rows.proofs.AtLaws.{at_row}
use Rattle.matching.specs.Family.{parent}
use Rattle.matching.specs.Linked.{Climbs, no_deeper}
use Rattle.matching.specs.Shape.{word}
use Rattle.matching.proofs.Siblings.{left_as_deep, left_none, no_deeper_before}
use Rattle.matching.proofs.link.kin_of.Goals as goal

-- row u, the last one no deeper than v, stands before v, and a shape that is linked up to v has its parent and its depth
nearest : {rd ws : List ℕ} {v u : ℕ} → Row rd v → Climbs rd ws v → u ≡ no_deeper rd v
    → (u < v) × (word 0 ws u ≡ parent rd (no_deeper rd v)) × (word 3 ws u ≡ depth rd (no_deeper rd v))
nearest {rd} {ws} {v} {u} r k e =
    let o : u < v = omega (arith, no_deeper_before rd v r.0) in (o, k.parents u o ∙ ap (parent rd) e, k.depths u o ∙ ap (depth rd) e)

pub depth_of-requires : goal.depth_of-requires
depth_of-requires c = omega (arith, (nearest c.requires.0 c.requires.1 c.no_deeper-u.ensures).0)

pub parent_of-requires : goal.parent_of-requires
parent_of-requires c = omega (arith, (nearest c.requires.0 c.requires.1 c.no_deeper-u.ensures).0)

pub returns-then-depth_of-d : goal.returns-then-depth_of-d
returns-then-depth_of-d c = let rd = c.args.depths.now in
    let v = c.args.v in
    let near = nearest c.requires.0 c.requires.1 c.no_deeper-u.ensures in
    let kin = left_as_deep rd v (sym (c.depth_of.ensures ∙ near.2) ∙ c.if-depth_of-d.true ∙ sym (at_row rd v c.requires.0.0)) in
    record { left = c.no_deeper-u.ensures ∙ sym kin.0; parent = c.parent_of.ensures ∙ near.1 ∙ sym kin.1 }

pub returns : goal.returns
returns c = let rd = c.args.depths.now in
    let v = c.args.v in
    let near = nearest c.requires.0 c.requires.1 c.no_deeper-u.ensures in
    let kin = left_none rd v (λ e. c.if-depth_of-d.false (c.depth_of.ensures ∙ near.2 ∙ e ∙ at_row rd v c.requires.0.0)) in
    record { left = sym kin.0; parent = c.no_deeper-u.ensures ∙ sym kin.1 }
