-- `matching::path::mark_chain` meets its contract: first child by first child, as long as it has rows below it. Assumes nothing.
use Rattle.matching.proofs.Asking.{Chaining}
use Rattle.matching.proofs.path.mark_chain.Given as goal

abbrev pub invariant-loop-place : goal.invariant-loop-place
invariant-loop-place l = Chaining l.question.recipe.now l.initial.map l.map l.place
