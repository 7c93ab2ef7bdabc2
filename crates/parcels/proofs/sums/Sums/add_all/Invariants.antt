-- `Sums::add_all` meets its contract. The invariant: the sums so far, with the numbers that are left, make the whole. Assumes nothing.
use Rattle.std.proofs.Common.{◌≡◌, drop, map}
use Rattle.parcels.specs.Sums.{added_all}
use Rattle.parcels.proofs.sums.Sums.add_all.Given as goal

abbrev pub invariant-loop-x : goal.invariant-loop-x
invariant-loop-x g l = let words = map g.F.Field.value l.values in added_all l.after (drop l.x-index words) ≡ added_all l.initial.after words
