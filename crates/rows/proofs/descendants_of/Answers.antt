-- `rows::descendants_of` meets its contract: the chain counts the run of deeper rows behind the row. Assumes nothing.
use mathlib.Core.Path.{◌≡◌, sym, ◌∙◌}
use native.Mathlib.Omega.{arith}
use Prim.Native.Nat.{◌-◌}
use lib.Dec.{ltb}
use lib.ListN.{length, get_or, drop, take, length-drop}
use lib.Seq.{take-length}
use borrow.Author.Rules.{rules}
use Rattle.std.proofs.Common.{tests}
use Rattle.std.proofs.lemmas.Iterator.{YieldsList-from_slice}
use Rattle.std.proofs.lemmas.Iterator.Consumers.{count_from_yields_List}
use Rattle.std.proofs.lemmas.Iterator.Search.{YieldsList-from_take_while}
use Rattle.std.proofs.lemmas.List.Folds.{length-prefix_len}
use Rattle.rows.proofs.Deeper.{deeper_is}
use Rattle.rows.proofs.DescendantLaws.{descendants_row}
use Rattle.rows.proofs.descendants_of.Goals as goal

pub returns : goal.returns
returns c = let ds = c.args.depths.now in
    let v = c.args.row.0 in
    let top = get_or ds (v - 1) 0 in
    let behind : take (length ds - v) (drop v ds) ≡ drop v ds = rw (← length-drop v ds) (take-length (drop v ds)) in
    count_from_yields_List c.take_while.result _ c.count.ensures.ran
    (YieldsList-from_take_while _ (ltb top) (YieldsList-from_slice (drop v ds) (cc)) c.take_while.ensures.closure c.take_while.ensures.done
    (λ x b q k. search (rules, tests)))
    ∙ length-prefix_len (ltb top) (drop v ds)
    ∙ sym (descendants_row ds v (omega arith) ∙ deeper_is top (drop v ds))
