-- `matching::plain::gain_of` meets its contract: it has looked at the chains before place i. Assumes nothing.
use mathlib.Core.Path.{◌≡◌}
use Rattle.rows.specs.Rows.{at}
use Rattle.matching.specs.Shape.{word}
use Rattle.matching.specs.Asked.{chain}
use Rattle.matching.specs.Engine.{next_row}
use Rattle.matching.proofs.PlainLaws.{Gained}
use Rattle.matching.proofs.plain.gain_of.Given as goal

abbrev pub invariant-loop-i : goal.invariant-loop-i
invariant-loop-i l =
    Gained (λ j. at l.question.labels.now (word 2 l.question.shape.now (chain l.asked j)) ≡ l.name)
    (λ j. at l.question.labels.now (next_row l.question.shape.now (word 2 l.question.shape.now (chain l.asked j))) ≡ l.name) l.i l.joins
