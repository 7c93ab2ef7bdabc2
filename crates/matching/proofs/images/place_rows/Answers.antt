use native.Mathlib.Omega.{arith}
use lib.ListN.{length}
use mathlib.Core.Path.{◌≡◌}
use Rattle.matching.proofs.EarliestClose.{placed_all}
use Rattle.matching.proofs.PlaceRows.{known_fits, stage_begun, stage_here}
use Rattle.matching.proofs.images.place_rows.Goals as goal

pub place_known-placed-requires-clause-known : goal.place_known-placed-requires-clause-known
place_known-placed-requires-clause-known c = known_fits c.args.question.now.ready c.args.question.now.same _ c.args.known c.requires.known

pub loop-i-init : goal.loop-i-init
loop-i-init c = let q = c.args.question.now in
    stage_here (stage_begun q.ready q.same c.requires.included c.clear_marks.ensures c.requires.in_bounds.0 c.requires.in_bounds.1 c.args.known c.requires.known _ _ c.place_known-placed.ensures)

pub returns-clause-earliest_close : goal.returns-clause-earliest_close
returns-clause-earliest_close c = let s = c.loop-i.invariant in
    let n : c.loop-i.i ≡ length c.args.question.now.recipe.now = omega (arith, s.few, c.loop-i-test.false) in
    placed_all _ c.args.question.now.recipe.now c.args.question.now.depths.now c.loop-i.map (omega (arith, s.size)) (rw n at s.placed)
