-- `write` meets its contract: the parcel that is put at the front is what is written. Assumes nothing.
use Rattle.std.proofs.Common.{arith}
use Rattle.parcels.proofs.Writing.{whole_parcel}
use Rattle.parcels.proofs.write.Goals as goal

pub returns-clause-bytes_after : goal.returns-clause-bytes_after
returns-clause-bytes_after c =
    (whole_parcel c.args.depths.now c.args.labels.now c.args.bytes.now (omega arith) (omega arith) (omega arith) _ c.put_parcel.ensures).1
