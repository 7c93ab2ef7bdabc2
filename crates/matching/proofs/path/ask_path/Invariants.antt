-- `matching::path::ask_path` meets its contract: row by row down the recipe, as long as there is one with rows below it. Assumes nothing.
use Prim.Native.Nat.{◌≤◌}
use Rattle.matching.proofs.Asking.{Asking}
use Rattle.matching.proofs.path.ask_path.Given as goal

abbrev pub invariant-loop-place : goal.invariant-loop-place
invariant-loop-place l = (l.k ≤ l.most) × Asking l.question.recipe.now l.asked l.initial.map l.map l.v l.u l.k l.place
