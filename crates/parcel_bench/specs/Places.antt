-- What the bench's calls answer: a place or a length, and 0 for a refusal. Assumes nothing.
use Rattle.std.specs.Prelude.{List, ℕ, Result, Ok, Err}
use Rattle.parcels.specs.Read.{read_of, filled, depths_in, labels_in}
use Rattle.parcels.specs.declared.Limit.TheVariants.{Listing}
use Rattle.parcels.specs.declared.Refusal.{Refusal}
use Rattle.parcels.specs.declared.Rows.{Rows}

-- reading a listing at the front of an input
abbrev pub read_listing : List ℕ → List ℕ → List ℕ → Result Rows Refusal
read_listing bytes depths labels = read_of bytes 0 Listing depths labels

-- and the lent row slices afterwards
abbrev pub depths_after : List ℕ → List ℕ → List ℕ → List ℕ
depths_after bytes depths labels = filled (read_listing bytes depths labels) (depths_in bytes 0) depths

abbrev pub labels_after : List ℕ → List ℕ → List ℕ → List ℕ
labels_after bytes depths labels = filled (read_listing bytes depths labels) (labels_in bytes 0) labels

abbrev pub place_after : Result Rows Refusal → ℕ
place_after (Ok rows) = rows.next
place_after (Err r) = 0

abbrev pub length_given : Result ℕ Refusal → ℕ
length_given (Ok n) = n
length_given (Err r) = 0
