-- `matching::joining::join_alone` meets its contract: a row alone changes a corner only where it begins it or is a leaf beside it. Assumes nothing.
use native.Mathlib.Omega.{arith}
use mathlib.Core.Path.{sym, ◌∙◌}
use lib.ListN.{length}
use Rattle.matching.proofs.CornerWords.{after_fits, alone_none, alone_last, alone_deeper, alone_gained, alone_missed}
use Rattle.matching.proofs.Width.{length_words}
use Rattle.matching.proofs.joining.join_alone.Goals as goal
use Rattle.matching.proofs.joining.join_alone.Goals.{
  else-y-ne0-via-then-y-ne0+then-leaf_of-y+else-label_of-name,
  else-y-ne0-via-then-y-ne0+else-leaf_of-y,
  else-y-ne0-via-else-y-ne0,
}

pub returns-then-a-eq0 : goal.returns-then-a-eq0
returns-then-a-eq0 c =
    let q = c.args.question.now in
    c.close_row.ensures ∙ alone_none q.shape.now q.labels.now c.args.name q.ready.shape c.requires c.if-a-eq0.true

pub label_of-requires : goal.label_of-requires
label_of-requires c =
    let q = c.args.question.now in
    omega (arith, c.right_of-y.ensures, after_fits q.shape.now q.labels.now c.args.name q.ready.shape c.requires, length_words q.shape.now 1 (length q.labels.now))

pub returns-then-label_of-name : goal.returns-then-label_of-name
returns-then-label_of-name c =
    let q = c.args.question.now in
    alone_gained q.shape.now q.labels.now c.args.name q.ready.shape c.requires c.if-a-eq0.false c.right_of-y.ensures c.if-y-ne0.true
    (sym c.leaf_of.ensures ∙ c.if-leaf_of-y.true) c.label_of.ensures c.if-label_of-name.true

pub returns : goal.returns
returns c =
    let q = c.args.question.now in
    elim c.else-y-ne0.branch [
      | else-y-ne0-via-then-y-ne0+then-leaf_of-y+else-label_of-name w ↦
          alone_missed q.shape.now q.labels.now c.args.name q.ready.shape c.requires c.if-a-eq0.false c.right_of-y.ensures w.if-y-ne0.true
          (sym w.leaf_of.ensures ∙ w.if-leaf_of-y.true) w.label_of.ensures w.if-label_of-name.false
      | else-y-ne0-via-then-y-ne0+else-leaf_of-y w ↦
          alone_deeper q.shape.now q.labels.now c.args.name q.ready.shape c.requires c.if-a-eq0.false c.right_of-y.ensures
          (λ e. w.if-leaf_of-y.false (w.leaf_of.ensures ∙ e))
      | else-y-ne0-via-else-y-ne0 w ↦
          alone_last q.shape.now q.labels.now c.args.name q.ready.shape c.requires c.if-a-eq0.false c.right_of-y.ensures w.if-y-ne0.false
    ]
