-- `put_parcel` meets its contract, by the sums of the table and the three sections that it puts. Assumes nothing.
use Rattle.std.proofs.Common.{◌+◌, ◌*◌, length, ap, ◌∙◌}
use Rattle.std.proofs.lemmas.List.{map-id}
use lib.Seq.{sets}
use Rattle.parcels.specs.declared.sums.Sums.{Sums}
use Rattle.parcels.specs.Parcel.{section, both}
use Rattle.parcels.proofs.Summing.{table_sums}
use Rattle.parcels.proofs.Sections.{put_sections}
use Rattle.parcels.proofs.put_parcel.Goals as goal

pub returns : goal.returns
returns c =
    let n = length c.args.labels.now in
    let sums = c.of_table-whole.ensures ∙ table_sums n c.args.labels.now c.args.depths.now in
    let labels = rw (map-id c.args.labels.now) at c.put.ensures in
    let depths = rw (map-id c.args.depths.now) at c.put-2.ensures in
    let both_sums = c.put-3.ensures ∙ ap (λ (s : Sums). sets c.put-2.new.bytes (8 + 6 * n) (section 4 (both s))) sums in
    put_sections c.args.bytes.now c.args.depths.now c.args.labels.now c.requires.depths_len.0 labels depths both_sums
