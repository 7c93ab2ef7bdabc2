-- `journal::moves::open` meets its contract. Assumes nothing.
use mathlib.Core.Path.{◌∙◌, ap}
use Prim.Native.Nat.{◌-◌}
use lib.ListN.{set}
use Rattle.journal.proofs.Shifts.{open_end}
use Rattle.journal.proofs.moves.open.Goals as goal

pub returns : goal.returns
returns g c = ap (λ l. set l (c.args.row - 1) c.args.item) c.copy_within.ensures.after
    ∙ open_end c.args.slots.now c.args.row c.args.count c.args.item c.requires.0 c.requires.1 c.requires.2
