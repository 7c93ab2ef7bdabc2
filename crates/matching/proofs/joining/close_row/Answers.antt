-- `matching::joining::close_row` meets its contract: the corner of a tree, from the corner of the rows below its root. Assumes nothing.
use Rattle.matching.proofs.CornerWords.{words_new, words_empty, words_top, words_wide, words_raise, words_other, leaf_labelled, parent_labelled}
use native.Mathlib.Omega.{arith}
use Rattle.matching.proofs.joining.close_row.Goals as goal

pub label_of-requires : goal.label_of-requires
label_of-requires c = let q = c.args.question.now in omega (arith, c.leaf_of-v.ensures, leaf_labelled q.shape.now q.labels.now q.ready.shape c.args.x c.requires.0)

pub returns-then-label_of-name : goal.returns-then-label_of-name
returns-then-label_of-name c =
    words_new _ _ c.args.question.now.ready.shape c.requires.0 c.requires.1 c.leaf_of-v.ensures c.label_of.ensures c.if-w-eq0.true c.if-label_of-name.true

pub returns-then-w-eq0 : goal.returns-then-w-eq0
returns-then-w-eq0 c =
    words_empty _ _ c.args.question.now.ready.shape c.requires.0 c.requires.1 c.leaf_of-v.ensures c.label_of.ensures c.if-w-eq0.true c.if-label_of-name.false

pub returns-then-depth_of : goal.returns-then-depth_of
returns-then-depth_of c =
    words_top _ _ c.args.question.now.ready.shape c.requires.0 c.requires.1 c.depth_of.ensures c.depth_of-2.ensures c.if-w-eq0.false c.if-depth_of.true

pub returns-then-right_of-ne0 : goal.returns-then-right_of-ne0
returns-then-right_of-ne0 c =
    words_wide _ _ c.args.question.now.ready.shape c.requires.0 c.requires.1 c.depth_of.ensures c.depth_of-2.ensures c.if-w-eq0.false c.if-depth_of.false
    c.right_of.ensures c.if-right_of-ne0.true

pub label_of-requires-2 : goal.label_of-requires-2
label_of-requires-2 c = let q = c.args.question.now in omega (arith, c.parent_of-v.ensures, parent_labelled q.shape.now q.labels.now q.ready.shape c.args.w c.requires.1)

pub returns-then-label_of-name-2 : goal.returns-then-label_of-name-2
returns-then-label_of-name-2 c =
    words_raise _ _ c.args.question.now.ready.shape c.requires.0 c.requires.1 c.depth_of.ensures c.depth_of-2.ensures c.if-w-eq0.false c.if-depth_of.false
    c.right_of.ensures c.if-right_of-ne0.false c.parent_of-v.ensures c.label_of-2.ensures c.if-label_of-name-2.true

pub returns : goal.returns
returns c =
    words_other _ _ c.args.question.now.ready.shape c.requires.0 c.requires.1 c.depth_of.ensures c.depth_of-2.ensures c.if-w-eq0.false c.if-depth_of.false
    c.right_of.ensures c.if-right_of-ne0.false c.parent_of-v.ensures c.label_of-2.ensures c.if-label_of-name-2.false
