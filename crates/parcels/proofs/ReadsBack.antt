-- Document 01: "Reading back what was written is meant at the listing's limit, and at the recipe's too for up to 256 rows",
-- wherever in a longer input the parcel stands. Assumes nothing.
use Rattle.std.proofs.Common.{◌≡◌, ℕ, ◌+◌, ◌≤◌, List, Ok, ◌++◌, length, take, drop, ap, ◌∙◌}
use lib.Seq.{drop-append_seam}
use Rattle.rows.specs.Limits.{recipe_rows}
use Rattle.parcels.specs.Table.{Table}
use Rattle.parcels.specs.Parcel.{parcel_of}
use Rattle.parcels.specs.Write.{write_of, written}
use Rattle.parcels.specs.Read.{most_rows, given, read_of, filled, labels_in, depths_in}
use Rattle.parcels.specs.declared.Limit.{Limit}
use Rattle.parcels.specs.declared.Limit.TheVariants.{Recipe, Listing}
use Rattle.parcels.proofs.Writing.{wrote, front}
use Rattle.parcels.proofs.RoundTrip.{rows_back, accepted_back}

-- reading at a place gives these rows: their count and the place after a parcel of that length, the rows in the first slots of
-- the lent slices, and later slots as they were
pub record Gives (bytes : List ℕ) (start : ℕ) (limit : Limit) (depth_slots label_slots depths labels : List ℕ) (size : ℕ) : Type 0 where
  pub answer : read_of bytes start limit depth_slots label_slots ≡ given (length labels) (start + size)
  pub depths_after : filled (read_of bytes start limit depth_slots label_slots) (depths_in bytes start) depth_slots ≡ depths ++ drop (length labels) depth_slots
  pub labels_after : filled (read_of bytes start limit depth_slots label_slots) (labels_in bytes start) label_slots ≡ labels ++ drop (length labels) label_slots

module _ (depths labels room : List ℕ) (size : ℕ) (table : Table depths labels) (w : write_of depths labels room ≡ Ok size)
    (before behind depth_slots label_slots : List ℕ) (enough-depths : length labels ≤ length depth_slots)
    (enough-labels : length labels ≤ length label_slots) where
  -- the written bytes, with bytes before them and behind
  abbrev input : List ℕ
  input = before ++ (take size (written depths labels room) ++ behind)

  reads_back : (limit : Limit) → length labels ≤ most_rows limit → Gives input (length before) limit depth_slots label_slots depths labels size
  reads_back limit few =
      let facts = wrote depths labels room size w in
      let start = length before in
      let here : drop start input ≡ parcel_of depths labels ++ behind =
      drop-append_seam before (take size (written depths labels room) ++ behind) ∙ ap (λ (p : List ℕ). p ++ behind) (front depths labels room size w) in
      let rows = rows_back input start depths labels behind table facts.few here in
      let a = accepted_back input start depths labels behind table facts.few here limit depth_slots label_slots few enough-depths enough-labels in
      let answer : read_of input start limit depth_slots label_slots ≡ given (length labels) (start + size) = a ∙ rw facts.size in
      record {
        answer = answer;
        depths_after = rw answer (ap (λ (r : List ℕ). r ++ drop (length labels) depth_slots) rows.0);
        labels_after = rw answer (ap (λ (r : List ℕ). r ++ drop (length labels) label_slots) rows.1);
      }

  -- at the listing's limit
  pub reads_back_listing : Gives input (length before) Listing depth_slots label_slots depths labels size
  reads_back_listing = reads_back Listing (wrote depths labels room size w).few

  -- at the recipe's, for up to 256 rows
  pub reads_back_recipe : length labels ≤ recipe_rows → Gives input (length before) Recipe depth_slots label_slots depths labels size
  reads_back_recipe few = reads_back Recipe few
