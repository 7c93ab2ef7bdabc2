-- A number below ten is its one digit; any other has its tenth's digits and then its last.
use native.Mathlib.Omega.{arith}
use mathlib.Core.Path.{ap}
use lib.ListN.{length}
use Rattle.host.proofs.Digits.{digits_small, digits_more}
use Rattle.host.proofs.Putting.{put_small, put_large, put_next}
use Rattle.host.proofs.line.+put_digits.Goals as goal

pub bounds-answer-0 : goal.bounds-answer-0
bounds-answer-0 t c = let h = digits_small c.args.n (omega arith) in omega (arith, ap length h)

pub returns-then-n-lt10 : goal.returns-then-n-lt10
returns-then-n-lt10 t c = put_small c.args.answer.now c.args.n (omega arith) c.requires

pub put_digits-last-requires : goal.put_digits-last-requires
put_digits-last-requires t c = let h = digits_more c.args.n (omega arith) in (omega arith, omega arith)

pub bounds-answer-last : goal.bounds-answer-last
bounds-answer-last t c = let h = digits_more c.args.n (omega arith) in put_next c.put_digits-last.ensures (omega arith)

pub returns : goal.returns
returns t c = put_large c.args.n (omega arith) c.put_digits-last.ensures c.requires
