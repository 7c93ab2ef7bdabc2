-- `journal::judge::may_return` meets its contract: past the tests before it only the rows behind are left to judge. Assumes nothing.
use mathlib.Core.Path.{◌≡◌, ◌∙◌, sym, ap}
use Prim.Native.Nat.{suc, ◌-◌, ◌≤◌}
use lib.ListN.{length, drop}
use native.Mathlib.Omega.{arith}
use borrow.Author.Tests.{le-leb}
use Rattle.std.proofs.lemmas.Slice.{between_to_end}
use Rattle.rows.specs.Limits.{deepest}
use Rattle.rows.specs.FirstBad.{most_at}
use Rattle.journal.specs.Entry.{may_return, may_rise}
use Rattle.journal.proofs.Rises.{return_here}
use Rattle.journal.proofs.judge.may_return.Goals as goal

pub returns : goal.returns
returns c =
    let e = return_here c.args.depths.now c.args.entry.row c.args.entry.depth c.args.entry.below c.requires c.if-entry-lt1.false c.if-depths-entry.false in
    let a : c.args.entry.depth ≤ most_at c.args.depths.now c.args.entry.row = omega (arith, c.most_at.ensures, c.from.ensures) in
    let b : c.args.entry.depth ≤ deepest = omega (arith, c.from-2.ensures) in
    let r : may_return c.args.depths.now c.args.entry.row c.args.entry.depth c.args.entry.below
    ≡ may_rise (suc c.args.entry.depth) c.args.entry.depth c.args.entry.below (drop (c.args.entry.row - 1) c.args.depths.now) =
    e ∙ rw (le-leb _ _ a, le-leb _ _ b) in
    c.may_rise.ensures
    ∙ ap (may_rise (suc c.args.entry.depth) c.args.entry.depth c.args.entry.below)
    (between_to_end c.args.depths.now (c.args.entry.row - 1) (length c.args.depths.now) (omega arith))
    ∙ sym r
