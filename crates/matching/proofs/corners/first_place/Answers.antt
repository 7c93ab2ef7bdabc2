use mathlib.Core.Path.{ap, ap₂, ◌∙◌}
use Prim.Native.Nat.{ℕ, ◌-◌}
use Rattle.matching.specs.Path.{met}
use Rattle.matching.specs.Shape.{word}
use Rattle.matching.proofs.corners.first_place.Goals as goal

pub returns-then-is_met : goal.returns-then-is_met
returns-then-is_met c =
    let w = c.at-w.ensures in
    met c.loop-i.i c.loop-i-test.true c.loop-i.invariant (rw w at (c.is_met.ensures.0 c.if-is_met.true))
    (ap₂ (λ (d e : ℕ). d - e) (c.depth_of.ensures ∙ ap (word 3 c.args.shape.now) w) (c.depth_of-then-is_met.ensures ∙ ap (word 3 c.args.shape.now) c.chain.ensures))
