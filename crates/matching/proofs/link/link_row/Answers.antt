-- `matching::link::link_row` meets its contract: the two rows that it stores link row v. Assumes nothing.
use mathlib.Core.Path.{sym}
use native.Mathlib.Omega.{arith}
use Rattle.rows.proofs.AtLaws.{at_row}
use Rattle.matching.proofs.Family.{left_before}
use Rattle.matching.proofs.Linking.{link_row}
use Rattle.matching.proofs.link.link_row.Goals as goal

pub bounds-shape-inside-kin : goal.bounds-shape-inside-kin
bounds-shape-inside-kin c = omega (arith, left_before c.args.depths.now c.args.v c.requires.0.0)

pub returns : goal.returns
returns c = link_row
    c.args.depths.now
    c.shape.inside.rows
    c.shape.inside.kinds
    c.shape.invariant.0
    c.shape.invariant.1
    c.args.v
    _
    _
    _
    c.requires.0
    (rw c.shape.view_is c.requires.1)
    c.kin_of-kin.ensures.left
    c.kin_of-kin.ensures.parent
    (sym (at_row c.args.depths.now c.args.v c.requires.0.0))
