-- Document 01, "Numbers of refusal": the number and the place of each refusal of a parcel. Assumes nothing.
use Rattle.std.specs.Prelude.{ℕ, List, ◌∷◌, ◌++◌}
use Rattle.std.specs.Fmt.{decimal}
use Rattle.parcels.specs.declared.Refusal.{Refusal}
use Rattle.parcels.specs.declared.Refusal.TheVariants.{SlicesDiffer, OverLimit, Ended, SecondCount, ThirdCount}
use Rattle.parcels.specs.declared.Refusal.TheVariants.{SumDiffers, FirstCount, BytesTooShort, RowsTooShort}

abbrev pub number_of : Refusal → ℕ
number_of SlicesDiffer = 6
number_of OverLimit = 7
number_of (Ended place) = 11
number_of (SecondCount place) = 12
number_of (ThirdCount place) = 13
number_of (SumDiffers place) = 14
number_of (FirstCount place) = 16
number_of BytesTooShort = 17
number_of RowsTooShort = 18

abbrev pub place_of : Refusal → ℕ
place_of SlicesDiffer = 0
place_of OverLimit = 0
place_of (Ended place) = place
place_of (SecondCount place) = place
place_of (ThirdCount place) = place
place_of (SumDiffers place) = place
place_of (FirstCount place) = place
place_of BytesTooShort = 0
place_of RowsTooShort = 0

-- as it is printed: the number, a space (32) and the place
abbrev pub number_and_place : Refusal → List ℕ
number_and_place refusal = decimal (number_of refusal) ++ (32 ∷ decimal (place_of refusal))
