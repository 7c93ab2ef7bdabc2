-- `main` reads its input to the end: each turn takes a byte at least. Assumes nothing.
use Rattle.std.proofs.Common.{length}
use Rattle.journal_sessions.proofs.main.Given as goal

abbrev pub decreases-loop-op : goal.decreases-loop-op
decreases-loop-op l = length l.input
