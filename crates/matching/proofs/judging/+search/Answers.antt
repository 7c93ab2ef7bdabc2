use mathlib.Core.Bool.{true, false}
use mathlib.Core.Path.{refl}
use Prim.Native.Nat.{◌<◌}
use native.Mathlib.Omega.{arith}
use Rattle.matching.proofs.Search.{searchable_below, tells_empty, tells_none, tells_found, tells_skip, other_label, not_below, not_behind}
use Rattle.matching.proofs.judging.+search.Goals as goal
use Rattle.matching.proofs.judging.+search.Goals.{then-listing-passed+then-search+else-search-2, then-listing-passed+else-search, else-listing-passed}

pub returns-then-recipe : goal.returns-then-recipe
returns-then-recipe t c = tells_empty _ _ _ _ _ _ _ _ c.if-recipe.true

pub part-below-requires : goal.part-below-requires
part-below-requires t c = searchable_below _ _ _ _ _ _ c.args.recipe.now.searchable (omega arith) (omega (arith, c.if-recipe.false)) c.last_row_of-recipe_tree.ensures

pub part-rest-requires : goal.part-rest-requires
part-rest-requires t c = searchable_below _ _ _ _ _ _ c.args.listing.now.searchable (omega arith) (omega arith) c.last_row_of-listing_tree.ensures

pub returns-then-search-2 : goal.returns-then-search-2
returns-then-search-2 t c =
    let some : c.args.recipe.now.after < c.args.recipe.now.last = omega (arith, c.if-recipe.false, c.args.recipe.now.searchable.order) in
    let p = c.part-rest.ensures in
    let q = c.part-below.ensures in
    let below = rw (p.0, p.1, p.2, q.0, q.1, q.2) at c.search.ensures in
    let r = c.part-rest-then-search.ensures in
    let s = c.part-behind.ensures in
    let behind = rw (r.0, r.1, r.2, s.0, s.1, s.2) at c.search-then-search.ensures in
    let try = tells_found _ _ _ _ _ _ _ _ _ some c.last_row_of-recipe_tree.ensures c.loop-passed-test.true _ c.last_row_of-listing_tree.ensures in
    c.loop-passed.invariant true (try c.if-listing-passed.true _ _ c.if-search.true below c.if-search-2.true behind)

pub loop-passed-preserved : goal.loop-passed-preserved
loop-passed-preserved t c =
    let some : c.args.recipe.now.after < c.args.recipe.now.last = omega (arith, c.if-recipe.false, c.args.recipe.now.searchable.order) in
    let skip = tells_skip _ _ _ _ _ _ _ _ _ some c.last_row_of-recipe_tree.ensures c.loop-passed-test.true in
    let q = c.part-below.ensures in
    let s = c.part-behind.ensures in
    λ r next.
    c.loop-passed.invariant r (elim c.if-listing-passed.branch [
      | then-listing-passed+then-search+else-search-2 w ↦
          let p = w.part-rest-then-search.ensures in
          skip _ w.last_row_of-listing_tree.ensures (not_behind _ w.if-search-2.false (rw (p.0, p.1, p.2, s.0, s.1, s.2) at w.search-then-search.ensures)) r next
      | then-listing-passed+else-search w ↦
          let p = w.part-rest.ensures in
          skip _ w.last_row_of-listing_tree.ensures (not_below _ w.if-search.false (rw (p.0, p.1, p.2, q.0, q.1, q.2) at w.search.ensures)) r next
      | else-listing-passed w ↦ skip _ refl (other_label w.if-listing-passed.false) r next
    ])

pub returns : goal.returns
returns t c =
    let some : c.args.recipe.now.after < c.args.recipe.now.last = omega (arith, c.if-recipe.false, c.args.recipe.now.searchable.order) in
    c.loop-passed.invariant false (tells_none _ _ _ _ _ _ _ _ some c.loop-passed-test.false)
