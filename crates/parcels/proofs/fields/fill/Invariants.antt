-- `fields::fill` meets its contract. The invariant: the first i slots are the numbers, later slots as they were. Assumes nothing.
use Rattle.std.proofs.Common.{◌≡◌, ◌++◌, drop, map}
use Rattle.parcels.specs.Numbers.{numbers}
use Rattle.parcels.proofs.fields.fill.Given as goal

abbrev pub invariant-loop-i : goal.invariant-loop-i
invariant-loop-i g l =
    let field = g.F.Field in
    map field.value l.slots ≡ numbers field.WIDTH l.i (drop l.at l.bytes) ++ drop l.i (map field.value l.initial.slots)
