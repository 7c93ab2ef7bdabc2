-- `matching::window::seek_behind` meets its contract: the window behind a row is whole. Assumes nothing.
use Rattle.matching.proofs.Seeking.{whole_behind}
use Rattle.matching.proofs.window.seek_behind.Goals as goal

pub seek_in-requires-clause-held_deep : goal.seek_in-requires-clause-held_deep
seek_in-requires-clause-held_deep c =
    rw (c.behind.ensures.0, c.behind.ensures.1, c.behind.ensures.2) (c.requires.held_deep, whole_behind c.args.question.now.depths.now c.args.first)
