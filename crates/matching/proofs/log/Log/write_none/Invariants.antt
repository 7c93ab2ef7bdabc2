-- `matching::log::Log::write_none` meets its contract: the rows of a stretch get the place of no row, and no other row's place moves.
-- Assumes nothing.
use Rattle.matching.specs.Path.{Blank}
use Rattle.matching.proofs.log.Log.write_none.Given as goal

abbrev pub invariant-loop-at : goal.invariant-loop-at
invariant-loop-at l = Blank l.initial.self l.first l.at l.k l.self
