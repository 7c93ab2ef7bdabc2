-- `journal::moves::close` meets its contract. Assumes nothing.
use mathlib.Core.Path.{◌∙◌, ap}
use Prim.Native.Nat.{◌-◌}
use lib.ListN.{set}
use Rattle.journal.proofs.Shifts.{close_end}
use Rattle.journal.proofs.moves.close.Goals as goal

pub returns : goal.returns
returns g c = ap (λ l. set l (c.args.count - 1) c.args.empty) c.copy_within.ensures.after
    ∙ close_end c.args.slots.now c.args.row c.args.count c.args.empty c.requires.0 c.requires.1 c.requires.2
