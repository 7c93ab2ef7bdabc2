-- Document 01's whole case: the two parcels byte by byte, and the answers of the reader on the 32 + 38 bytes. Assumes nothing.
use Rattle.std.proofs.Common.{◌≡◌, ℕ, List, [], ◌∷◌, ◌++◌, refl}
use Rattle.parcels.specs.Numbers.{le, number, fields, numbers}
use Rattle.parcels.specs.Sums.{none, added, added_all}
use Rattle.parcels.specs.Parcel.{section, parcel_of}
use Rattle.parcels.specs.Read.{section_of, given, claim_of, sums_agree, read_of}
use Rattle.parcels.specs.declared.Limit.TheVariants.{Recipe, Listing}

-- labels 10 20, depths 0 1, sums 33 and 111
abbrev recipe : List ℕ
recipe =
    2 ∷ 0 ∷ 0 ∷ 0 ∷ 10 ∷ 0 ∷ 0 ∷ 0 ∷ 20 ∷ 0 ∷ 0 ∷ 0 ∷ 2 ∷ 0 ∷ 0 ∷ 0 ∷ 0 ∷ 0 ∷ 1 ∷ 0 ∷ 2 ∷ 0 ∷ 0 ∷ 0 ∷ 33 ∷ 0 ∷ 0 ∷ 0 ∷ 111 ∷ 0 ∷ 0 ∷ 0 ∷ []

-- labels 10 30 20, depths 0 1 2, sums 66 and 315
abbrev listing : List ℕ
listing =
    3 ∷ 0 ∷ 0 ∷ 0 ∷ 10 ∷ 0 ∷ 0 ∷ 0 ∷ 30 ∷ 0 ∷ 0 ∷ 0 ∷ 20 ∷ 0 ∷ 0 ∷ 0 ∷ 3 ∷ 0 ∷ 0 ∷ 0 ∷ 0 ∷ 0 ∷ 1 ∷ 0 ∷ 2 ∷ 0 ∷ 2 ∷ 0 ∷ 0 ∷ 0 ∷ 66 ∷ 0 ∷ 0 ∷ 0 ∷ 59 ∷ 1 ∷ 0 ∷ 0 ∷ []

abbrev slots : List ℕ
slots = 7 ∷ 7 ∷ 7 ∷ []

pub parcels_written : (parcel_of (0 ∷ 1 ∷ []) (10 ∷ 20 ∷ []) ≡ recipe) × (parcel_of (0 ∷ 1 ∷ 2 ∷ []) (10 ∷ 30 ∷ 20 ∷ []) ≡ listing)
unfolding le fields none added added_all section parcel_of
parcels_written = (refl, refl)

pub parcels_read : (read_of (recipe ++ listing) 0 Recipe slots slots ≡ given 2 32) × (read_of (recipe ++ listing) 32 Listing slots slots ≡ given 3 70)
unfolding number numbers none added added_all section_of claim_of sums_agree
parcels_read = (refl, refl)
