-- What a table holds when a parcel has been read into it. Assumes nothing.
use Rattle.std.specs.Prelude.{◌≡◌, List, ℕ, take}
use Rattle.parcels.specs.Read.{labels_in, depths_in}

-- the first n slots of both slices are the rows of the parcel
pub record Holds (input : List ℕ) (start n : ℕ) (depths labels : List ℕ) : Type 0 where
  pub first_depths : take n depths ≡ depths_in input start n
  pub first_labels : take n labels ≡ labels_in input start n
