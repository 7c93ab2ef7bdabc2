-- `matching::plain::next_of` meets its contract: the right sibling, or else the parent. Assumes nothing.
use mathlib.Core.Path.{sym, ◌∙◌}
use native.Mathlib.Omega.{arith}
use Rattle.matching.proofs.PlainLaws.{next_right, next_up}
use Rattle.matching.proofs.plain.next_of.Goals as goal

pub returns-then-y-eq0 : goal.returns-then-y-eq0
returns-then-y-eq0 c = c.parent_of.ensures ∙ sym (next_up c.args.shape.now c.args.v (sym c.right_of-y.ensures ∙ c.if-y-eq0.true))

pub returns : goal.returns
returns c = sym (next_right c.args.shape.now c.args.v c.right_of-y.result (sym c.right_of-y.ensures) (omega (arith, c.if-y-eq0.false)))
