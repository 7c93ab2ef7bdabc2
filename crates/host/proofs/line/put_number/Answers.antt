-- The space, and behind it the digits.
use native.Mathlib.Omega.{arith}
use lib.ListN.{length}
use Rattle.host.specs.Line.{space, digits}
use Rattle.host.proofs.Putting.{put_none, put_byte, put_then, put_room}
use Rattle.host.proofs.line.put_number.Goals as goal

pub put_digits-requires : goal.put_digits-requires
put_digits-requires c = put_room (length (digits c.args.n)) (put_byte space (put_none c.args.answer.now) (omega arith)) (omega arith)

pub returns : goal.returns
returns c = put_then (put_byte space (put_none c.args.answer.now) (omega arith)) c.put_digits.ensures
