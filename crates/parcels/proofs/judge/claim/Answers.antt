-- `judge::claim` meets its contract: the first section that it found lies within the limit. Assumes nothing.
use Rattle.std.proofs.Common.{sym, arith}
use Rattle.parcels.proofs.Judging.{found}
use Rattle.parcels.proofs.judge.claim.Goals as goal

pub section-requires-2 : goal.section-requires-2
section-requires-2 c = omega (arith, found c.args.bytes.now c.args.start 0 c.args.most 4 _ _ _ (sym c.in_ok-labels.ensures))
