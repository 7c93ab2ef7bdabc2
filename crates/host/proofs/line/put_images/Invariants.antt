-- So far the images before this one are put.
use lib.ListN.{take}
use Rattle.host.specs.Line.{spaced}
use Rattle.host.specs.Put.{Put}
use Rattle.host.proofs.line.put_images.Given as goal

abbrev pub invariant-loop-image : goal.invariant-loop-image
invariant-loop-image l = Put l.initial.answer (spaced (take l.image-index l.images)) l.answer l.count
