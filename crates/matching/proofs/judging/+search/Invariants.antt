-- `matching::judging::search` meets its contract. The measure is the recipe rows left plus the listing rows left. The loop's invariant: what
-- tells it of the listing rows not passed tells it of all. Assumes nothing.
use mathlib.Core.Bool.{Bool}
use Prim.Native.Nat.{◌+◌, ◌-◌}
use Rattle.matching.specs.Judge.{Tells}
use Rattle.matching.proofs.judging.+search.Given as goal

abbrev pub decreases-search : goal.decreases-search
decreases-search l = (l.recipe.now.last - l.recipe.now.after) + (l.listing.now.last - l.listing.now.after)

abbrev pub invariant-loop-passed : goal.invariant-loop-passed
invariant-loop-passed l =
    (r : Bool)
    → Tells l.recipe.table.now.depths.now l.recipe.table.now.labels.now l.recipe.after l.recipe.last l.listing.table.now.depths.now l.listing.table.now.labels.now l.passed l.listing.last r
    → Tells l.recipe.table.now.depths.now l.recipe.table.now.labels.now l.recipe.after l.recipe.last l.listing.table.now.depths.now l.listing.table.now.labels.now l.listing.after l.listing.last r
