-- `matching::images::place_rows` meets its contract: the map that is written is the map of earliest close. Assumes nothing.
use Rattle.rows.specs.Embedding.{SameLabel}
use Rattle.matching.specs.Images.{Stage}
use Rattle.matching.proofs.images.place_rows.Given as goal

abbrev pub invariant-loop-i : goal.invariant-loop-i
invariant-loop-i l = Stage (SameLabel l.question.labels.now l.question.names.now) l.question.recipe.now l.question.depths.now l.initial.map l.work.log l.map l.i
