-- Document 01, "The parcel": the bytes of a table's parcel. An edition would be a parameter of `words` and `sections`. Assumes nothing.
use Rattle.std.specs.Prelude.{ℕ, List, [], ◌∷◌, ◌++◌, length}
use Rattle.parcels.specs.Numbers.{le, fields}
use Rattle.parcels.specs.declared.sums.Sums.{Sums}
use Rattle.parcels.specs.Sums.{none, added_all}

-- the words that are summed, in their order: n, all labels, all depths
abbrev pub words : ℕ → List ℕ → List ℕ → List ℕ
words n labels depths = n ∷ (labels ++ depths)

-- the sums over a table
abbrev pub sums_of : List ℕ → List ℕ → Sums
sums_of depths labels = added_all none (words (length labels) labels depths)

-- a section: its count, then its fields of so many bytes each
unfoldable pub section : ℕ → List ℕ → List ℕ
section width values = le 4 (length values) ++ fields width values

-- the fields of the third section
abbrev pub both : Sums → List ℕ
both sums = sums.first ∷ sums.second ∷ []

-- the sections in their order: the labels, the depths, the two sums
abbrev pub sections : List ℕ → List ℕ → List (List ℕ)
sections depths labels = section 4 labels ∷ section 2 depths ∷ section 4 (both (sums_of depths labels)) ∷ []

-- one after another
abbrev pub joined : List (List ℕ) → List ℕ
joined [] = []
joined (s ∷ ss) = s ++ joined ss

-- the parcel of a table
unfoldable pub parcel_of : List ℕ → List ℕ → List ℕ
parcel_of depths labels = joined (sections depths labels)
