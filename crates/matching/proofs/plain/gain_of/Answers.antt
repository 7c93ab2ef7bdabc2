use mathlib.Core.Path.{sym, ap, ◌∙◌}
use native.Mathlib.Omega.{arith}
use native.Mathlib.Numerals.{add-one}
use Rattle.rows.specs.Rows.{at}
use Rattle.matching.specs.Engine.{next_row}
use Rattle.matching.specs.Shape.{word}
use Rattle.matching.specs.Room.{recipe_of}
use Rattle.matching.proofs.CornerWords.{leaf_labelled}
use Rattle.matching.proofs.PlainLaws.{gained_more, gained_same, next_labelled}
use Rattle.matching.proofs.LeftLeaf.{leaf_within}
use Rattle.matching.proofs.plain.gain_of.Goals as goal
use Rattle.matching.proofs.plain.gain_of.Goals.{then-label_of-name+else-label_of-name-2, else-label_of-name}

pub label_of-requires : goal.label_of-requires
label_of-requires c =
    let q = c.args.question.now in
    let l = c.requires.by_index c.loop-i.i c.loop-i-test.true in
    rw (c.leaf_of-leaf.ensures ∙ ap (word 2 q.shape.now) c.chain.ensures) (leaf_labelled q.shape.now q.labels.now q.ready.shape _ l)

pub next_of-requires : goal.next_of-requires
next_of-requires c =
    let q = c.args.question.now in
    let l = c.requires.by_index c.loop-i.i c.loop-i-test.true in
    let leaf = c.leaf_of-leaf.ensures ∙ ap (word 2 q.shape.now) c.chain.ensures ∙ q.ready.shape.leaves _ l in
    omega (arith, leaf, leaf_within (recipe_of q.shape.now q.labels.now) _ l, q.ready.shape.few)

pub label_of-requires-then-label_of-name : goal.label_of-requires-then-label_of-name
label_of-requires-then-label_of-name c =
    let q = c.args.question.now in
    let l = c.requires.by_index c.loop-i.i c.loop-i-test.true in
    let leaf = c.leaf_of-leaf.ensures ∙ ap (word 2 q.shape.now) c.chain.ensures ∙ q.ready.shape.leaves _ l in
    rw c.next_of.ensures
    (next_labelled q.shape.now q.labels.now q.ready.shape c.leaf_of-leaf.result (rw leaf (leaf_within (recipe_of q.shape.now q.labels.now) _ l)))

pub loop-i-preserved : goal.loop-i-preserved
loop-i-preserved c =
    let q = c.args.question.now in
    let labels = q.labels.now in
    let leaf = c.leaf_of-leaf.ensures ∙ ap (word 2 q.shape.now) c.chain.ensures in
    let label = c.label_of.ensures ∙ ap (at labels) leaf in
    rw add-one (elim c.if-label_of-name.branch [
      | then-label_of-name+else-label_of-name-2 w ↦
          let next = w.label_of-then-label_of-name.ensures ∙ ap (at labels) (w.next_of.ensures ∙ ap (next_row q.shape.now) leaf) in
          rw w.joins-is (gained_more c.loop-i.invariant (sym label ∙ w.if-label_of-name.true) (λ e. w.if-label_of-name-2.false (next ∙ e)))
      | else-label_of-name w ↦ rw w.joins-is (gained_same c.loop-i.invariant (λ e. w.if-label_of-name.false (label ∙ e)))
    ])
