-- `fields::put` meets its contract. The invariant: putting the numbers that are left gives the whole. Assumes nothing.
use Rattle.std.proofs.Common.{◌≡◌, ◌+◌, ◌*◌, drop, map}
use lib.Seq.{sets}
use Rattle.parcels.specs.Numbers.{fields}
use Rattle.parcels.proofs.fields.put.Given as goal

abbrev pub invariant-loop-i : goal.invariant-loop-i
invariant-loop-i g l =
    let field = g.F.Field in
    let xs = map field.value l.values in
    sets l.bytes (l.at + 4 + field.WIDTH * l.i) (fields field.WIDTH (drop l.i xs)) ≡ sets l.initial.bytes (l.at + 4) (fields field.WIDTH xs)
