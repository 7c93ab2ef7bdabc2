-- `judge::section` meets its contract: its size is small. Assumes nothing.
use Rattle.std.proofs.Common.{arith}
use Rattle.parcels.proofs.Judging.{small}
use Rattle.parcels.proofs.judge.section.Goals as goal

pub overflow_mul-size : goal.overflow_mul-size
overflow_mul-size c = omega (arith, small c.args.width c.read-count.result (omega arith) (omega arith))
