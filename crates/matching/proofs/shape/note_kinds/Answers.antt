use mathlib.Core.Path.{◌≡◌}
use native.Mathlib.Omega.{arith}
use native.Mathlib.Numerals.{add-one}
use lib.ListN.{length}
use Rattle.matching.proofs.KindLaws.{noted_none, noted_one}
use Rattle.matching.proofs.shape.note_kinds.Goals as goal

pub loop-label-init : goal.loop-label-init
loop-label-init c = noted_none _ _ c.requires

pub loop-label-preserved : goal.loop-label-preserved
loop-label-preserved c = rw (add-one c.loop-label.label-index, c.kind_word.ensures.0, c.kind_bit.ensures)
    (noted_one _ _ c.loop-label.label-index c.loop-label.invariant)

pub returns : goal.returns
returns c = let e : c.loop-label.label-index ≡ length c.args.labels.now = omega arith in rw e at c.loop-label.invariant
