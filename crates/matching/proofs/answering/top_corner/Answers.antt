-- `matching::answering::top_corner` meets its contract: the corner of the whole recipe in the whole listing. Assumes nothing.
use Rattle.std.proofs.Common.{rules}
use Rattle.matching.proofs.OnlyRoot.{one_row_corner, first_sought, first_begins, first_found}
use Rattle.matching.proofs.answering.top_corner.Goals as goal

pub returns-then-question-eq1 : goal.returns-then-question-eq1
returns-then-question-eq1 c = let q = c.args.question.now in let f = c.only_row.ensures in
    (one_row_corner q.shape.now q.labels.now q.depths.now q.names.now q.ready c.if-question-eq1.true _ f.1 f.2, rw f.0 tt)

pub forest_corners-requires-clause-ready : goal.forest_corners-requires-clause-ready
forest_corners-requires-clause-ready c =
    (search rules, first_sought c.args.question.now.ready c.requires c.sought_rows.ensures c.args.work.now.asked c.seek_path.ensures c.ask_first.ensures)

pub forest_corners-requires-clause-begins : goal.forest_corners-requires-clause-begins
forest_corners-requires-clause-begins c =
    first_begins c.args.question.now.ready c.requires c.sought_rows.ensures c.args.work.now.asked c.seek_path.ensures c.ask_first.ensures c.args.work.now.size _

pub returns-in-Break : goal.returns-in-Break
returns-in-Break c =
    first_found c.args.question.now.ready c.requires c.sought_rows.ensures c.args.work.now.asked c.seek_path.ensures c.ask_first.ensures (search rules) c.in-Break.ensures
