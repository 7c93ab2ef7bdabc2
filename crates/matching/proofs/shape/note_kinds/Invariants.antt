-- `matching::shape::note_kinds` meets its contract: the kind of each label is noted. Assumes nothing.
use Rattle.matching.specs.Shape.{Noted}
use Rattle.matching.proofs.shape.note_kinds.Given as goal

abbrev pub invariant-loop-label : goal.invariant-loop-label
invariant-loop-label l = Noted l.labels l.kinds l.label-index
