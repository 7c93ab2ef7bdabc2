-- `matching::answering::include` meets its contract: the answer is document 01's, and the map slice is as it says. Assumes nothing.
use mathlib.Core.Path.{sym}
use native.Mathlib.Omega.{arith}
use Rattle.matching.proofs.Refusals.{tables_fine}
use Rattle.matching.proofs.answering.include.Goals as goal

pub answer_good-requires : goal.answer_good-requires
answer_good-requires c = ((tables_fine _ _ _ _).0 (sym c.in_ok-check_tables.ensures), omega (arith, c.if-map-recipe_depths.false))
