-- The count stays within the buffer, and each turn that goes on adds to it.
use Rattle.std.proofs.Common.{length, ◌-◌, ◌≤◌}
use Rattle.polashvek.proofs.read_full.Given as goal

abbrev pub invariant-loop-count : goal.invariant-loop-count
invariant-loop-count g l = l.count ≤ length l.buffer

abbrev pub decreases-loop-count : goal.decreases-loop-count
decreases-loop-count g l = length l.buffer - l.count
