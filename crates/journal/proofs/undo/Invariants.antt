-- `journal::undo` meets its contract. The loop's invariant: the rows before the next have gained one. Assumes nothing.
use mathlib.Core.Path.{◌≡◌}
use Prim.Native.Nat.{suc}
use Rattle.journal.specs.Strike.{first_by}
use Rattle.journal.proofs.undo.Given as goal

abbrev pub invariant-loop-depth : goal.invariant-loop-depth
invariant-loop-depth l = l.depth-items ≡ first_by suc l.depth-index l.initial.depth-items
