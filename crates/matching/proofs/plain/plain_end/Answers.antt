-- `matching::plain::plain_end` meets its contract: the last row of a tree whose rows all bear one label. Assumes nothing.
use Rattle.std.proofs.Common.{rules}
use Rattle.matching.proofs.PlainLaws.{one_label}
use Rattle.matching.proofs.plain.plain_end.Goals as goal

pub returns : goal.returns
returns c = one_label _ _ _ _ c.tree_end.result c.tree_end.ensures (λ y a b t. search rules)
