-- `matching::images::find_image` meets its contract: the row found is the image of the next recipe row, and the marks and the log stay right. Assumes nothing.
use mathlib.Core.Path.{sym, ◌∙◌}
use Rattle.matching.proofs.PlaceRows.{row_labelled, row_inner, row_held, leaf_some, leaf_one, mark_some, mark_one, row_pass}
use Rattle.matching.proofs.images.find_image.Goals as goal

pub bounds-question-v : goal.bounds-question-v
bounds-question-v c = row_labelled c.args.question.now.ready c.args.question.now.same c.requires.next

pub seek_row-requires : goal.seek_row-requires
seek_row-requires c = let q = c.args.question.now in
    leaf_some q.ready q.same c.requires.next c.requires.begins (sym c.leaf_of.ensures ∙ c.if-leaf_of-v.true)

pub returns-then-leaf_of-v-clause-upper_bound : goal.returns-then-leaf_of-v-clause-upper_bound
returns-then-leaf_of-v-clause-upper_bound c = let q = c.args.question.now in
    leaf_one q.ready q.same c.requires.next c.requires.begins (sym c.leaf_of.ensures ∙ c.if-leaf_of-v.true) c.seek_row.ensures

pub seek_row-requires-then-marked : goal.seek_row-requires-then-marked
seek_row-requires-then-marked c = let q = c.args.question.now in
    mark_some q.ready q.same c.requires.next c.requires.begins c.image_of-mark.ensures c.if-marked.true

pub returns-then-marked-clause-upper_bound : goal.returns-then-marked-clause-upper_bound
returns-then-marked-clause-upper_bound c = let q = c.args.question.now in
    mark_one q.ready q.same c.requires.next c.requires.begins c.image_of-mark.ensures c.if-marked.true c.seek_row-then-marked.ensures

pub ask_path-k-requires-clause-inner : goal.ask_path-k-requires-clause-inner
ask_path-k-requires-clause-inner c = let q = c.args.question.now in
    row_inner q.ready q.same c.requires.next (λ x. c.if-leaf_of-v.false (c.leaf_of.ensures ∙ x))

pub seek_behind-requires-clause-held_deep : goal.seek_behind-requires-clause-held_deep
seek_behind-requires-clause-held_deep c = let q = c.args.question.now in
    row_held q.ready q.same c.requires.next c.requires.begins c.ask_path-k.ensures.path_asked.1

pub returns-clause-upper_bound : goal.returns-clause-upper_bound
returns-clause-upper_bound c = let q = c.args.question.now in let path = c.ask_path-k.ensures.path_asked in
    row_pass q.ready q.same c.requires.next c.requires.begins (sym c.image_of-mark.ensures ∙ c.if-marked.false) path.0 path.1 c.ask_path-k.ensures.marks c.seek_behind.ensures
