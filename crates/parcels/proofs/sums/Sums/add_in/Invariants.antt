-- `Sums::add_in` meets its contract. The invariant: the sums so far, with the numbers that are left, make the whole. Assumes nothing.
use Rattle.std.proofs.Common.{◌≡◌, drop}
use Rattle.parcels.specs.Numbers.{numbers}
use Rattle.parcels.specs.Sums.{added_all}
use Rattle.parcels.proofs.sums.Sums.add_in.Given as goal

abbrev pub invariant-loop-i : goal.invariant-loop-i
invariant-loop-i g l =
    let words = numbers g.F.Field.WIDTH l.n (drop l.at l.bytes) in added_all l.after (drop l.i words) ≡ added_all l.initial.after words
