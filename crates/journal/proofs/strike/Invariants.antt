-- `journal::strike` meets its contract. The loop's invariant: the descendants before the next have lost one from their depths. Assumes nothing.
use mathlib.Core.Path.{◌≡◌}
use Prim.Native.Nat.{◌-◌}
use Rattle.journal.specs.Strike.{first_by}
use Rattle.journal.proofs.strike.Given as goal

abbrev pub invariant-loop-depth : goal.invariant-loop-depth
invariant-loop-depth l = l.depth-items ≡ first_by (λ d. d - 1) l.depth-index l.initial.depth-items
