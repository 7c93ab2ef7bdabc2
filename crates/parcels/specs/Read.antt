-- The reader: its answer and the lent row slices afterwards. Document 01's order: "fields in reading order, each first for being
-- whole, then for its value; both sums are read before 14; then 18". Places count from the start of the input. Assumes nothing.
use Rattle.std.specs.Prelude.{ℕ, ◌+◌, ◌*◌, ◌≤◌, Bool, ◌&&◌, List, ◌++◌, length, drop, ◌==◌, nat_le, Result, Ok, Err}
use Rattle.rows.specs.Limits.{recipe_rows, listing_rows}
use Rattle.parcels.specs.Asked.{asked}
use Rattle.parcels.specs.Numbers.{number, numbers}
use Rattle.parcels.specs.Sums.{none, added_all}
use Rattle.parcels.specs.Parcel.{words}
use Rattle.parcels.specs.declared.Limit.{Limit}
use Rattle.parcels.specs.declared.Limit.TheVariants.{Recipe, Listing}
use Rattle.parcels.specs.declared.Refusal.{Refusal}
use Rattle.parcels.specs.declared.Refusal.TheVariants.{Ended, SecondCount, ThirdCount, SumDiffers, FirstCount, RowsTooShort}
use Rattle.parcels.specs.declared.Rows.{Rows}
use Rattle.parcels.specs.declared.judge.Whole.{Whole}

-- the limit that the reader is told
abbrev pub most_rows : Limit → ℕ
most_rows Recipe = recipe_rows
most_rows Listing = listing_rows

-- the place after a section of n fields of width w
abbrev pub after : ℕ → ℕ → ℕ → ℕ
after at w n = at + 4 + w * n

-- one section: its count, first for being whole, then for its value; then its fields for being whole
unfoldable pub section_of : List ℕ → ℕ → ℕ → ℕ → ℕ → Refusal → Result Whole Refusal
section_of bytes at least most width miscounted =
    let count = number 4 (drop at bytes) in
    asked (nat_le (at + 4) (length bytes)) (Err (Ended (length bytes)))
    (asked (nat_le least count) (Err miscounted)
    (asked (nat_le count most) (Err miscounted)
    (asked (nat_le (after at width count) (length bytes)) (Err (Ended (length bytes)))
    (Ok (record { count = count; next = after at width count })))))

-- what a section leads to: a refusal, or what comes after it
abbrev pub followed : Result Whole Refusal → (ℕ → ℕ → Result Rows Refusal) → Result Rows Refusal
followed (Err r) next = Err r
followed (Ok whole) next = next whole.count whole.next

-- so many rows, and the place after their parcel
abbrev pub given : ℕ → ℕ → Result Rows Refusal
given n next = Ok (record { count = n; next = next })

-- the three sections in their order: at most so many labels, as many depths, two sums
unfoldable pub claim_of : List ℕ → ℕ → ℕ → Result Rows Refusal
claim_of bytes start most =
    followed (section_of bytes start 0 most 4 (FirstCount start)) (λ n second.
    followed (section_of bytes second n n 2 (SecondCount second)) (λ _ third.
    followed (section_of bytes third 2 2 4 (ThirdCount third)) (λ _ next. given n next)))

-- where the labels, the depths and the sums of a parcel stand
abbrev pub labels_at : ℕ → ℕ
labels_at start = start + 4

abbrev pub depths_at : ℕ → ℕ → ℕ
depths_at start n = after start 4 n + 4

abbrev pub sums_at : ℕ → ℕ → ℕ
sums_at start n = after (after start 4 n) 2 n + 4

-- its n labels and its n depths
abbrev pub labels_in : List ℕ → ℕ → ℕ → List ℕ
labels_in bytes start n = numbers 4 n (drop (labels_at start) bytes)

abbrev pub depths_in : List ℕ → ℕ → ℕ → List ℕ
depths_in bytes start n = numbers 2 n (drop (depths_at start n) bytes)

-- both sums of the input are those of its words
unfoldable pub sums_agree : List ℕ → ℕ → ℕ → Bool
sums_agree bytes start n =
    let sums = added_all none (words n (labels_in bytes start n) (depths_in bytes start n)) in
    (number 4 (drop (sums_at start n) bytes) == sums.first) && number 4 (drop (sums_at start n + 4) bytes) == sums.second

-- what is claimed, if both sums agree
abbrev pub agreed_of : List ℕ → ℕ → Result Rows Refusal → Result Rows Refusal
agreed_of bytes start (Err r) = Err r
agreed_of bytes start (Ok rows) = asked (sums_agree bytes start rows.count) (Err (SumDiffers (sums_at start rows.count))) (Ok rows)

-- what was agreed, if both lent row slices have n slots
abbrev pub room_of : Result Rows Refusal → ℕ → ℕ → Result Rows Refusal
room_of (Err r) depths labels = Err r
room_of (Ok rows) depths labels =
    asked (nat_le rows.count depths) (Err RowsTooShort) (asked (nat_le rows.count labels) (Err RowsTooShort) (Ok rows))

-- the answer, from the input, the place to start, the limit and the lent row slices
abbrev pub read_of : List ℕ → ℕ → Limit → List ℕ → List ℕ → Result Rows Refusal
read_of bytes start limit depths labels = room_of (agreed_of bytes start (claim_of bytes start (most_rows limit))) (length depths) (length labels)

-- a lent row slice after an answer: its first n slots the rows, later slots as they were; after a refusal all as they were
abbrev pub filled : Result Rows Refusal → (ℕ → List ℕ) → List ℕ → List ℕ
filled (Err r) rows slots = slots
filled (Ok found) rows slots = rows found.count ++ drop found.count slots

-- a claim of rows lies within the limit and the input
abbrev pub Claim : List ℕ → ℕ → Result Rows Refusal → Type 0
Claim bytes start (Err r) = Unit
Claim bytes start (Ok rows) = (rows.count ≤ listing_rows) × (start + (20 + 6 * rows.count) ≤ length bytes)
