-- `matching::answering::answer_good` meets its contract: two good tables get document 01's answer. Assumes nothing.
use mathlib.Core.Path.{sym, ◌∙◌}
use mathlib.Core.Bool.{true≢false}
use native.Mathlib.Omega.{arith}
use Rattle.matching.proofs.AnswerLaws.{recipe_is, ready, corner_low, whole_included, answers_absent, answers_included}
use Rattle.matching.proofs.answering.answer_good.Goals as goal

pub invariant_of-question : goal.invariant_of-question
invariant_of-question c = record { ready = ready c.requires.0 c.draw.ensures.0 c.draw.ensures.1; same = recipe_is c.requires.0 c.draw.ensures.0 }

pub corner_of-corner-requires : goal.corner_of-corner-requires
corner_of-corner-requires c = (c.requires.0.recipe_some, corner_low c.requires.0 c.draw.ensures.0 c.top_corner-top.ensures.0)

pub is_whole-requires : goal.is_whole-requires
is_whole-requires c = omega (arith, corner_low c.requires.0 c.draw.ensures.0 c.top_corner-top.ensures.0, c.requires.0.recipe_few)

pub returns-then-not-is_whole : goal.returns-then-not-is_whole
returns-then-not-is_whole c =
    answers_absent c.requires.0 c.draw.ensures.0 c.top_corner-top.ensures.0 c.args.map.now c.requires.1 c.corner_of-corner.result c.corner_of-corner.ensures
    (λ h. true≢false (sym (c.is_whole.ensures.1 h) ∙ c.if-not-is_whole.true))

pub place_rows-requires-clause-included : goal.place_rows-requires-clause-included
place_rows-requires-clause-included c = (whole_included c.requires.0 c.draw.ensures.0 c.top_corner-top.ensures.0).0 (c.is_whole.ensures.0 c.if-not-is_whole.false)

pub returns : goal.returns
returns c =
    answers_included c.requires.0 c.draw.ensures.0 c.top_corner-top.ensures.0 c.args.map.now c.requires.1 c.corner_of-corner.result c.corner_of-corner.ensures
    (c.is_whole.ensures.0 c.if-not-is_whole.false) c.place_rows.new.map c.place_rows.ensures.earliest_close c.place_rows.ensures.map_unchanged
