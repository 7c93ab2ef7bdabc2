-- `journal::judge::may_rise` meets its contract. The loop's invariant: the test of the rows from this one on is the whole test. Assumes nothing.
use mathlib.Core.Path.{◌≡◌}
use Prim.Native.Nat.{suc, ◌-◌}
use lib.ListN.{drop}
use Rattle.journal.specs.Entry.{may_rise}
use Rattle.journal.proofs.judge.may_rise.Given as goal

abbrev pub invariant-loop-d : goal.invariant-loop-d
invariant-loop-d l = may_rise l.most l.depth (l.below - l.d-index) (drop l.d-index l.behind) ≡ may_rise (suc l.depth) l.depth l.below l.behind
