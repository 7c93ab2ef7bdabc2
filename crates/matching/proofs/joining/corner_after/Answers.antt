-- `matching::joining::corner_after` meets its contract: the corner on the chain after a corner's, where there is one. Assumes nothing.
use mathlib.Core.Path.{sym, ap, ◌∙◌}
use Prim.Native.Nat.{ℕ, ◌+◌}
use lib.ListN.{get_or}
use Rattle.matching.specs.Asked.{noted}
use Rattle.matching.proofs.Written.{following_none, following_some}
use Rattle.matching.proofs.joining.corner_after.Goals as goal

pub returns-then-y-eq0 : goal.returns-then-y-eq0
returns-then-y-eq0 c = sym (following_none c.args.shape.now c.args.asked.now c.args.room.now c.args.base c.args.a _ c.right_of-y.ensures c.if-y-eq0.true)

pub returns : goal.returns
returns c =
    c.at.ensures
    ∙ ap (λ (p : ℕ). get_or c.args.room.now (c.args.base + p) 0) (c.place_of.ensures ∙ ap (noted c.args.asked.now) c.right_of-y.ensures)
    ∙ sym (following_some c.args.shape.now c.args.asked.now c.args.room.now c.args.base c.args.a _ c.right_of-y.ensures c.if-y-eq0.false)
