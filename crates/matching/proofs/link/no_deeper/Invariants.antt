-- `matching::link::no_deeper` meets its contract. The loop's invariant: row u stands before v, and from it on up the search ends at the answer. The
-- measure is u. Assumes nothing.
use mathlib.Core.Path.{◌≡◌}
use Prim.Native.Nat.{suc, ◌<◌}
use Rattle.matching.specs.Family.{last_shallower}
use Rattle.matching.specs.Linked.{no_deeper}
use Rattle.matching.proofs.link.no_deeper.Given as goal

abbrev pub invariant-loop-u : goal.invariant-loop-u
invariant-loop-u l = (l.u < l.v) × (last_shallower l.depths (suc l.d) l.u ≡ no_deeper l.depths l.v)

abbrev pub decreases-loop-u : goal.decreases-loop-u
decreases-loop-u l = l.u
