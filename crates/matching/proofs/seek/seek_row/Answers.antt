use mathlib.Core.Path.{sym, ◌∙◌}
use mathlib.Core.Bool.{true≢false}
use Prim.Native.Nat.{suc}
use native.Mathlib.Omega.{arith}
use native.Mathlib.Numerals.{add-one}
use Rattle.matching.proofs.Scan.{scanned_none, scanned_hit, scanned_miss, scanned_end}
use Rattle.matching.proofs.seek.seek_row.Goals as goal
use Rattle.matching.proofs.seek.seek_row.Goals.{then-is_logged, else-is_logged}

pub loop-at-init : goal.loop-at-init
loop-at-init c = scanned_none _ c.args.question.now.ready.listing.outline _ _

pub returns-then-depths-at : goal.returns-then-depths-at
returns-then-depths-at c = let h = c.requires in
    scanned_end _ c.args.question.now.ready.listing.outline _ _ _ _ _ (omega arith) (λ l. c.if-depths-at.true) c.loop-at.invariant h.0 h.1 h.2 (h.3, h.4)

pub overflow_add-stop : goal.overflow_add-stop
overflow_add-stop c = omega (arith, c.args.question.now.ready.listing.shallow (suc c.loop-at.at) (omega arith))

pub loop-at-preserved : goal.loop-at-preserved
loop-at-preserved c = let k = c.args.question.now.ready.listing.outline in
    let d = c.if-depths-at.false in
    let g = c.is_logged.ensures in
    let n = add-one c.loop-at.at in
    elim c.if-is_logged.branch [
      | then-is_logged w ↦ rw n (scanned_hit _ k _ _ _ (omega arith) (omega arith) _ _ d c.loop-at.invariant (g.0 w.if-is_logged.true) (omega (arith, w.hit-is)) (omega (arith, w.stop-is)))
      | else-is_logged w ↦ rw (w.hit-is, w.stop-is, n) (scanned_miss _ k _ _ _ (omega arith) (omega arith) _ _ d c.loop-at.invariant (λ p. true≢false (sym (g.1 p) ∙ w.if-is_logged.false)))
    ]

pub returns : goal.returns
returns c = let h = c.requires in
    scanned_end _ c.args.question.now.ready.listing.outline _ _ _ _ _ (omega arith) (λ l. absurd (omega arith)) c.loop-at.invariant h.0 h.1 h.2 (h.3, h.4)
