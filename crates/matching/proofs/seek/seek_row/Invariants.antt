-- `matching::seek::seek_row` meets its contract: the row found is the first to close with the label for which the log has at most the mark. Assumes nothing.
use mathlib.Core.Path.{◌≡◌}
use Rattle.std.specs.Prelude.{IfSome}
use Prim.Native.Nat.{◌≤◌}
use Rattle.rows.specs.Rows.{at}
use Rattle.matching.specs.Path.{logged}
use Rattle.matching.proofs.Scan.{Scanned}
use Rattle.matching.proofs.seek.seek_row.Given as goal

abbrev pub invariant-loop-at : goal.invariant-loop-at
invariant-loop-at l = Scanned l.depths (λ t. (l.name ≡ at l.question.names.now t) × IfSome l.mark (λ i. logged l.log t ≤ i)) l.from l.at l.hit l.stop
