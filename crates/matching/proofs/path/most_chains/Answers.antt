-- `matching::path::most_chains` meets its contract: a path of so many chains has room. Assumes nothing.
use native.Mathlib.Omega.{arith}
use Prim.Native.Nat.{◌-◌, ◌≤◌}
use lib.ListN.{length}
use Rattle.rows.specs.Rows.{depth}
use Rattle.matching.specs.Room.{room_words}
use Rattle.matching.proofs.Asking.{shape_of}
use Rattle.matching.proofs.Written.{room_small, room_one, room_deep, room_fewer}
use Rattle.matching.proofs.path.most_chains.Goals as goal

pub returns-then-small : goal.returns-then-small
returns-then-small c = let q = c.args.question.now in
    (omega arith, λ k h l. room_fewer (length q.recipe.now) k (64 - depth q.recipe.now c.args.v) 64 room_words (omega arith) (room_small (length q.recipe.now) k c.if-small.true l))

pub returns-then-depth_of-ge4 : goal.returns-then-depth_of-ge4
returns-then-depth_of-ge4 c = let q = c.args.question.now in
    let o : 4 ≤ depth q.recipe.now c.args.v = omega (arith, c.if-depth_of-ge4.true, c.depth_of.ensures) in
    (omega arith, λ k h l. room_fewer (length q.recipe.now) k (64 - depth q.recipe.now c.args.v) 60 room_words (omega arith) (room_deep (length q.recipe.now) k (shape_of q.ready q.same).0.few h))

pub returns : goal.returns
returns c = let q = c.args.question.now in
    (omega arith, λ k h l. room_fewer (length q.recipe.now) k (64 - depth q.recipe.now c.args.v) 64 room_words (omega arith) (room_one (length q.recipe.now) k (shape_of q.ready q.same).0.few h))
