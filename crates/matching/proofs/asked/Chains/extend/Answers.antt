use mathlib.Core.Path.{ap, ◌∙◌}
use native.Mathlib.Omega.{arith}
use native.Mathlib.Numerals.{add-one}
use Rattle.matching.specs.Shape.{word}
use Rattle.matching.proofs.AskedLaws.{extends_one}
use Rattle.matching.proofs.asked.Chains.extend.Goals as goal

pub ask-z-requires : goal.ask-z-requires
ask-z-requires c = (
  omega (arith, c.right_of.ensures ∙ ap (word 1 c.args.shape.now) c.at.ensures, (c.requires.by_index c.loop-i.i (omega arith)).1),
  c.loop-i.invariant.asked 256 (omega arith) (λ i h. (c.requires.by_index i (omega arith)).1) c.requires.q_bound.1,
)

pub loop-i-preserved : goal.loop-i-preserved
loop-i-preserved c =
    let few = (c.requires.by_index c.loop-i.i (omega arith)).1 in
    let y = c.right_of.ensures ∙ ap (word 1 c.args.shape.now) c.at.ensures in
    let old = c.loop-i.invariant.asked 256 (omega arith) (λ i h. (c.requires.by_index i (omega arith)).1) c.requires.q_bound.1 in
    rw add-one (extends_one c.args.shape.now c.args.self.now c.args.room.now c.args.base c.args.q c.loop-i.i c.loop-i.self c.ask-z.new.self c.loop-i.z
    c.ask-z.result c.loop-i.invariant (rw y at c.ask-z.ensures) (c.ask-z.ensures.asked 256 (omega arith) (omega (arith, y, few)) old))
