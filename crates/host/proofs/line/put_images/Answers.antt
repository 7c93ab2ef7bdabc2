-- The images before this one and then this one are the images up to it, for which there is room.
use native.Mathlib.Omega.{arith}
use Rattle.host.specs.Line.{spaced}
use Rattle.host.proofs.Putting.{put_none, put_then, put_room, spaced_more, spaced_fits}
use Rattle.host.proofs.line.put_images.Goals as goal

pub loop-image-init : goal.loop-image-init
unfolding spaced
loop-image-init c = put_none c.args.answer.now

pub put_number-count-requires : goal.put_number-count-requires
put_number-count-requires c =
    put_room _ c.loop-image.invariant (omega (arith, spaced_fits c.args.images.now c.loop-image.image-index (omega arith)))

pub loop-image-preserved : goal.loop-image-preserved
loop-image-preserved c =
    rw (spaced_more c.args.images.now c.loop-image.image-index (omega arith)) (put_then c.loop-image.invariant c.put_number-count.ensures)
