-- `matching::corners::bare_end` meets its contract: the last row of a tree below whose root no label is of a kind that the recipe has.
-- Assumes nothing.
use Rattle.std.proofs.Common.{rules}
use Rattle.matching.proofs.Bare.{bare_end_lem}
use Rattle.matching.proofs.corners.bare_end.Goals as goal

pub returns : goal.returns
returns c =
    bare_end_lem _ c.args.question.now.shape.now c.args.question.now.depths.now c.args.question.now.names.now c.args.first
    c.tree_end.result c.tree_end.ensures (λ y a b t. search rules)
