-- `rows::is_fine` meets its contract. The loop's invariant: the flag says whether the rows passed are good, and `most` is the most that the next
-- depth may be. Assumes nothing.
use mathlib.Core.Path.{◌≡◌}
use mathlib.Core.Bool.{true}
use mathlib.Core.Logic.{◌↔◌}
use Prim.Native.Nat.{ℕ, suc, ◌≤◌}
use Rattle.rows.specs.Limits.{deepest}
use Rattle.rows.specs.FirstBad.{most_at}
use Rattle.rows.proofs.FirstBad.{GoodTo}
use Rattle.rows.proofs.is_fine.Given as goal

abbrev pub invariant-loop-d : goal.invariant-loop-d
invariant-loop-d l =
    ((e : ℕ) → (e ≤ l.most) ↔ ((e ≤ most_at l.depths (suc l.d-index)) × (e ≤ deepest))) × ((l.fine ≡ true) ↔ GoodTo l.depths l.d-index)
