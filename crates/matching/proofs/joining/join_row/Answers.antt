-- `matching::joining::join_row` meets its contract: the corner of two forests side by side is the higher one, or the wider of two as high. Assumes
-- nothing.
use mathlib.Core.Path.{sym}
use mathlib.Core.Bool.{true≢false}
use Rattle.matching.proofs.CornerWords.{words_none, words_higher, words_wider, words_kept}
use Rattle.matching.proofs.joining.join_row.Goals as goal

pub returns-then-a-eq0 : goal.returns-then-a-eq0
returns-then-a-eq0 c = let g = c.requires.a_in_bounds in words_none c.args.question.now.ready.shape g.0 g.1 g.2 c.if-a-eq0.true

pub returns-then-is_higher : goal.returns-then-is_higher
returns-then-is_higher c =
    let g = c.requires.a_in_bounds in
    words_higher c.args.question.now.ready.shape g.0 g.1 g.2 c.if-a-eq0.false c.depth_of-d.ensures (c.is_higher.ensures.0 c.if-is_higher.true)

pub returns-then-is_level : goal.returns-then-is_level
returns-then-is_level c =
    let g = c.requires.a_in_bounds in
    let w = c.corner_after-w.ensures in
    rw (← w)
    (words_wider c.args.question.now.ready.shape g.0 g.1 (rw w g.2) c.if-a-eq0.false c.depth_of-d.ensures (λ h. true≢false (sym (c.if-is_higher.ensures.1 h)))
    (c.is_level.ensures.0 c.if-is_level.true))

pub returns : goal.returns
returns c =
    let g = c.requires.a_in_bounds in
    let w = c.corner_after-w.ensures in
    rw (← w)
    (words_kept c.args.question.now.ready.shape g.0 g.1 (rw w g.2) c.if-a-eq0.false c.depth_of-d.ensures (λ h. true≢false (sym (c.if-is_higher.ensures.1 h)))
    (λ h. true≢false (sym (c.if-is_level.ensures.1 h))))
