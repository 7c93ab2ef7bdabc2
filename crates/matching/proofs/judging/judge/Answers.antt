-- `matching::judging::judge` meets its contract: good tables are searched whole. Assumes nothing.
use mathlib.Core.Path.{sym}
use Rattle.matching.proofs.Refusals.{tables_fine}
use Rattle.matching.proofs.Search.{searchable_table}
use Rattle.matching.proofs.judging.judge.Goals as goal

pub invariant_of-listing : goal.invariant_of-listing
invariant_of-listing c = record { searchable = searchable_table _ _ ((tables_fine _ _ _ _).0 (sym c.in_ok-check_tables.ensures)).listing_slices }

pub invariant_of-recipe : goal.invariant_of-recipe
invariant_of-recipe c = record { searchable = searchable_table _ _ ((tables_fine _ _ _ _).0 (sym c.in_ok-check_tables.ensures)).recipe_slices }
