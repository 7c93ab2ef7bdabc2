use Rattle.rows.proofs.Depths.{last_fits}
use Rattle.matching.proofs.AskedLaws.{asked_more}
use Rattle.matching.proofs.TreeJoins.{enters, level_room, few, extend_fits, more_rows, z_few, chains_more, begins_below, z_room, close_fits, tree_joins}
use Rattle.matching.proofs.TreePass.{bare_through, plain_through, plain_still, sought_below, below_found, below_fits, place_fits, tree_found, tree_through}
use Rattle.matching.proofs.ForestJoins.{starts, so_none, so_fits, so_sought, so_begins, so_struck, so_found, so_more, so_end}
use Prim.Native.Nat.{suc}
use mathlib.Core.Path.{◌≡◌, ◌∙◌}
use native.Mathlib.Omega.{arith}
use Rattle.std.proofs.Common.{rules, Continue, Break}
use native.Mathlib.Numerals.{add-one}
use Rattle.matching.proofs.corners.+forest_corners_tree_corners.Goals as goal

pub forest_corners-clear-requires : goal.forest_corners-clear-requires
forest_corners-clear-requires t c =
    level_room c.args.question.now.ready c.requires.begins c.requires.ready.0

pub forest_corners-loop-at-init : goal.forest_corners-loop-at-init
forest_corners-loop-at-init t c =
    let st = starts c.args.question.now.ready c.requires.begins c.requires.ready.0 c.requires.ready.1 c.clear.ensures in
    so_none st c.args.work.now.log c.args.work.now.log_size

pub forest_corners-loop-at-preserved-then-struck : goal.forest_corners-loop-at-preserved-then-struck
forest_corners-loop-at-preserved-then-struck t c =
    let st = starts c.args.question.now.ready c.requires.begins c.requires.ready.0 c.requires.ready.1 c.clear.ensures in
    rw (add-one c.loop-at.at)
    (so_struck st c.loop-at.invariant c.loop-at-test.true c.if-depths-first.true (search rules))

pub forest_corners-tree_corners-requires : goal.forest_corners-tree_corners-requires
forest_corners-tree_corners-requires t c =
    let st = starts c.args.question.now.ready c.requires.begins c.requires.ready.0 c.requires.ready.1 c.clear.ensures in
    let s = c.loop-at.invariant in (
      omega (arith, c.decreases, s.start, c.loop-at-test.true),
      (
        (c.loop-at-test.true, rw s.ends.path (so_sought st s)),
        (so_begins st s c.loop-at-test.true c.if-depths-first.true, so_fits st s),
      ),
    )

pub forest_corners-returns-in_err-at : goal.forest_corners-returns-in_err-at
forest_corners-returns-in_err-at t c =
    let st = starts c.args.question.now.ready c.requires.begins c.requires.ready.0 c.requires.ready.1 c.clear.ensures in
    let s = c.loop-at.invariant in
    rw c.from_residual.ensures (so_found st s c.loop-at-test.true c.if-depths-first.true (rw s.ends.path at c.in_err-at.ensures))

pub forest_corners-loop-at-preserved : goal.forest_corners-loop-at-preserved
forest_corners-loop-at-preserved t c =
    let st = starts c.args.question.now.ready c.requires.begins c.requires.ready.0 c.requires.ready.1 c.clear.ensures in
    let s = c.loop-at.invariant in
    let p = rw s.ends.path at c.in_ok-at.ensures in
    so_more st s c.loop-at-test.true c.if-depths-first.true p.0 p.1

pub forest_corners-returns-else-depths-first : goal.forest_corners-returns-else-depths-first
forest_corners-returns-else-depths-first t c =
    let st = starts c.args.question.now.ready c.requires.begins c.requires.ready.0 c.requires.ready.1 c.clear.ensures in
    so_end st c.loop-at.invariant (λ l. omega (arith, c.if-depths-first.false))

pub forest_corners-returns-after-loop-at : goal.forest_corners-returns-after-loop-at
forest_corners-returns-after-loop-at t c =
    let st = starts c.args.question.now.ready c.requires.begins c.requires.ready.0 c.requires.ready.1 c.clear.ensures in
    so_end st c.loop-at.invariant (λ l. absurd (omega (arith, c.loop-at-test.false)))

pub tree_corners-join_leaf-requires-clause-q_bound : goal.tree_corners-join_leaf-requires-clause-q_bound
tree_corners-join_leaf-requires-clause-q_bound t c =
    let k = c.args.question.now.ready in
    let r = c.requires in
    (level_room k r.begins r.ready.0, omega (arith, few k r.begins r.ready.0, k.shape.few))

pub tree_corners-returns-in-Some : goal.tree_corners-returns-in-Some
tree_corners-returns-in-Some t c =
    let en = enters c.args.question.now.ready c.requires.begins c.requires.ready.0 c.requires.ready.1 c.requires.by_index in
    bare_through en c.in-Some.ensures (rw c.path_chains.ensures at c.write.ensures) c.join_leaf.ensures

pub tree_corners-extend-z-requires-clause-q_bound : goal.tree_corners-extend-z-requires-clause-q_bound
tree_corners-extend-z-requires-clause-q_bound t c =
    let k = c.args.question.now.ready in
    let r = c.requires in
    (level_room k r.begins r.ready.0, asked_more _ 256 c.args.work.now.asked c.args.q k.shape.few r.begins.chains)

pub tree_corners-extend-z-requires-clause-by_index : goal.tree_corners-extend-z-requires-clause-by_index
tree_corners-extend-z-requires-clause-by_index t c =
    extend_fits (enters c.args.question.now.ready c.requires.begins c.requires.ready.0 c.requires.ready.1 c.requires.by_index)

pub tree_corners-plain_tree-requires-clause-first_in_bounds : goal.tree_corners-plain_tree-requires-clause-first_in_bounds
tree_corners-plain_tree-requires-clause-first_in_bounds t c =
    more_rows c.args.question.now.depths.now c.args.question.now.ready.listing.outline c.args.first c.requires.ready.0 c.in_default.ensures

pub tree_corners-plain_tree-requires-clause-z_bound : goal.tree_corners-plain_tree-requires-clause-z_bound
tree_corners-plain_tree-requires-clause-z_bound t c =
    let en = enters c.args.question.now.ready c.requires.begins c.requires.ready.0 c.requires.ready.1 c.requires.by_index in
    omega (arith, z_few en c.in_default.ensures c.extend-z.ensures, en.ready.shape.few)

pub tree_corners-plain_tree-requires-clause-by_index : goal.tree_corners-plain_tree-requires-clause-by_index
tree_corners-plain_tree-requires-clause-by_index t c =
    let en = enters c.args.question.now.ready c.requires.begins c.requires.ready.0 c.requires.ready.1 c.requires.by_index in
    λ i l. ((chains_more en c.in_default.ensures c.extend-z.ensures).rows i l).1

pub tree_corners-write_none-requires : goal.tree_corners-write_none-requires
tree_corners-write_none-requires t c =
    let e = c.in-Some-plain_tree.ensures.tree.last in
    let l = last_fits c.args.question.now.depths.now (suc c.args.first) (omega (arith, c.requires.ready.0)) in
    (omega (arith, e), omega (arith, e, l, c.args.question.now.ready.few))

pub tree_corners-join_leaf-requires-then-plain-clause-q_bound : goal.tree_corners-join_leaf-requires-then-plain-clause-q_bound
tree_corners-join_leaf-requires-then-plain-clause-q_bound t c =
    let k = c.args.question.now.ready in
    let r = c.requires in
    (level_room k r.begins r.ready.0, omega (arith, few k r.begins r.ready.0, k.shape.few))

pub tree_corners-returns-then-plain : goal.tree_corners-returns-then-plain
tree_corners-returns-then-plain t c =
    let en = enters c.args.question.now.ready c.requires.begins c.requires.ready.0 c.requires.ready.1 c.requires.by_index in
    let n = rw (c.path_chains-k.ensures ∙ c.extend-z.ensures.path) at c.write_none.ensures in
    plain_through en c.in_default.ensures c.extend-z.ensures c.in-Some-plain_tree.ensures n c.join_leaf-then-plain.ensures

pub tree_corners-returns-else-plain : goal.tree_corners-returns-else-plain
tree_corners-returns-else-plain t c =
    let en = enters c.args.question.now.ready c.requires.begins c.requires.ready.0 c.requires.ready.1 c.requires.by_index in
    let n = rw (c.path_chains-k.ensures ∙ c.extend-z.ensures.path) at c.write_none.ensures in
    plain_through en c.in_default.ensures c.extend-z.ensures c.in-Some-plain_tree.ensures n
    (plain_still en c.in_default.ensures c.extend-z.ensures c.in-Some-plain_tree.ensures c.if-plain.false)

pub tree_corners-forest_corners-requires : goal.tree_corners-forest_corners-requires
tree_corners-forest_corners-requires t c =
    let en = enters c.args.question.now.ready c.requires.begins c.requires.ready.0 c.requires.ready.1 c.requires.by_index in
    let m = c.in_default.ensures in
    let x = c.extend-z.ensures in (
      omega (arith, c.decreases),
      (
        (omega (arith, more_rows c.args.question.now.depths.now en.ready.listing.outline c.args.first en.inside m), rw x.path (sought_below en m x)),
        rw (add-one c.args.first) (begins_below en m x),
      ),
    )

pub tree_corners-returns-in_err-end : goal.tree_corners-returns-in_err-end
tree_corners-returns-in_err-end t c =
    let en = enters c.args.question.now.ready c.requires.begins c.requires.ready.0 c.requires.ready.1 c.requires.by_index in
    let x = c.extend-z.ensures in
    let found : c.forest_corners.result ≡ Break c.in_err-end.field-0.0 = search rules in
    rw c.from_residual.ensures (below_found en c.in_default.ensures x (rw (found, x.path, add-one) at c.forest_corners.ensures))

pub tree_corners-close_asked-requires-clause-z_bound : goal.tree_corners-close_asked-requires-clause-z_bound
tree_corners-close_asked-requires-clause-z_bound t c =
    let en = enters c.args.question.now.ready c.requires.begins c.requires.ready.0 c.requires.ready.1 c.requires.by_index in
    let x = c.extend-z.ensures in
    (z_room en c.in_default.ensures x, omega (arith, z_few en c.in_default.ensures x, en.ready.shape.few))

pub tree_corners-close_asked-requires-clause-by_index : goal.tree_corners-close_asked-requires-clause-by_index
tree_corners-close_asked-requires-clause-by_index t c =
    let en = enters c.args.question.now.ready c.requires.begins c.requires.ready.0 c.requires.ready.1 c.requires.by_index in
    let x = c.extend-z.ensures in
    let through : c.forest_corners.result ≡ Continue c.in_ok-end.end = search rules in
    let p = rw (through, x.path, add-one) at c.forest_corners.ensures in
    close_fits en c.in_default.ensures x p.1.ends

pub tree_corners-first_place-place-requires-clause-k_bound : goal.tree_corners-first_place-place-requires-clause-k_bound
tree_corners-first_place-place-requires-clause-k_bound t c =
    let en = enters c.args.question.now.ready c.requires.begins c.requires.ready.0 c.requires.ready.1 c.requires.by_index in
    let x = c.extend-z.ensures in
    let e = c.path_chains-k.ensures ∙ x.path in
    let l = en.sought.few in
    rw e (omega (arith, few en.ready en.begins en.inside, l, en.ready.shape.few), omega (arith, z_room en c.in_default.ensures x, x.least, l))

pub tree_corners-first_place-place-requires-clause-by_index : goal.tree_corners-first_place-place-requires-clause-by_index
tree_corners-first_place-place-requires-clause-by_index t c =
    let en = enters c.args.question.now.ready c.requires.begins c.requires.ready.0 c.requires.ready.1 c.requires.by_index in
    let x = c.extend-z.ensures in
    let through : c.forest_corners.result ≡ Continue c.in_ok-end.end = search rules in
    let p = rw (through, x.path, add-one) at c.forest_corners.ensures in
    let e = c.path_chains-k.ensures ∙ x.path in
    rw e (below_fits en c.in_default.ensures x p.1 c.close_asked.ensures)

pub tree_corners-overflow_cast-place : goal.tree_corners-overflow_cast-place
tree_corners-overflow_cast-place t c =
    let en = enters c.args.question.now.ready c.requires.begins c.requires.ready.0 c.requires.ready.1 c.requires.by_index in
    let x = c.extend-z.ensures in
    let through : c.forest_corners.result ≡ Continue c.in_ok-end.end = search rules in
    let p = rw (through, x.path, add-one) at c.forest_corners.ensures in
    let e = c.path_chains-k.ensures ∙ x.path in
    omega (arith, place_fits en c.in_default.ensures x p.1 c.close_asked.ensures (rw e at c.first_place-place.ensures))

pub tree_corners-write-requires-2 : goal.tree_corners-write-requires-2
tree_corners-write-requires-2 t c =
    let en = enters c.args.question.now.ready c.requires.begins c.requires.ready.0 c.requires.ready.1 c.requires.by_index in
    let x = c.extend-z.ensures in
    let through : c.forest_corners.result ≡ Continue c.in_ok-end.end = search rules in
    let p = rw (through, x.path, add-one) at c.forest_corners.ensures in
    let e = c.path_chains-k.ensures ∙ x.path in
    (omega (arith, en.inside, en.ready.few), omega (arith, place_fits en c.in_default.ensures x p.1 c.close_asked.ensures (rw e at c.first_place-place.ensures)))

pub tree_corners-returns-then-place-eq0 : goal.tree_corners-returns-then-place-eq0
tree_corners-returns-then-place-eq0 t c =
    let en = enters c.args.question.now.ready c.requires.begins c.requires.ready.0 c.requires.ready.1 c.requires.by_index in
    let x = c.extend-z.ensures in
    let through : c.forest_corners.result ≡ Continue c.in_ok-end.end = search rules in
    let p = rw (through, x.path, add-one) at c.forest_corners.ensures in
    let e = c.path_chains-k.ensures ∙ x.path in
    rw add-one
    (tree_found en c.in_default.ensures x p.1 c.close_asked.ensures (rw e at c.first_place-place.ensures) (rw e at c.write-2.ensures) c.if-place-eq0.true)

pub tree_corners-join_asked-requires-clause-q_le_z : goal.tree_corners-join_asked-requires-clause-q_le_z
tree_corners-join_asked-requires-clause-q_le_z t c =
    let en = enters c.args.question.now.ready c.requires.begins c.requires.ready.0 c.requires.ready.1 c.requires.by_index in
    let x = c.extend-z.ensures in
    (x.least, z_room en c.in_default.ensures x)

pub tree_corners-join_asked-requires-clause-by_index : goal.tree_corners-join_asked-requires-clause-by_index
tree_corners-join_asked-requires-clause-by_index t c =
    let en = enters c.args.question.now.ready c.requires.begins c.requires.ready.0 c.requires.ready.1 c.requires.by_index in
    let x = c.extend-z.ensures in
    let through : c.forest_corners.result ≡ Continue c.in_ok-end.end = search rules in
    let p = rw (through, x.path, add-one) at c.forest_corners.ensures in
    tree_joins en c.in_default.ensures x p.1.ends c.close_asked.ensures

pub tree_corners-returns : goal.tree_corners-returns
tree_corners-returns t c =
    let en = enters c.args.question.now.ready c.requires.begins c.requires.ready.0 c.requires.ready.1 c.requires.by_index in
    let x = c.extend-z.ensures in
    let through : c.forest_corners.result ≡ Continue c.in_ok-end.end = search rules in
    let p = rw (through, x.path, add-one) at c.forest_corners.ensures in
    let e = c.path_chains-k.ensures ∙ x.path in
    tree_through en c.in_default.ensures x p.1 c.close_asked.ensures (rw e at c.first_place-place.ensures) (rw e at c.write-2.ensures) c.if-place-eq0.false p.0
    c.join_asked.ensures
