-- `read` meets its contract: what is claimed lies within the limit and the input. Assumes nothing.
use Rattle.std.proofs.Common.{◌≤◌, Ok, arith}
use Rattle.rows.specs.Limits.{listing_rows}
use Rattle.parcels.specs.Read.{Claim}
use Rattle.parcels.proofs.Accepting.{claims, most_small}
use Rattle.parcels.proofs.read.Goals as goal

pub invariant_of-parcel : goal.invariant_of-parcel
invariant_of-parcel c =
    let small : c.most_rows.result ≤ listing_rows = omega (arith, c.most_rows.ensures, most_small c.args.limit) in
    let h = claims c.args.bytes.now c.args.start c.most_rows.result small in
    let k : Claim c.args.bytes.now c.args.start (Ok c.in_ok-claimed.claimed) = rw (← c.in_ok-claimed.ensures) at h in
    record { few = k.0; within = k.1 }
