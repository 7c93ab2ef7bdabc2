-- The writer: its answer and the lent bytes afterwards. Refusals in document 01's order: 6, 7, 17. Assumes nothing.
use Rattle.std.specs.Prelude.{ℕ, ◌+◌, ◌*◌, List, ◌++◌, length, drop, ◌==◌, nat_le, Result, Ok, Err}
use Rattle.rows.specs.Limits.{listing_rows}
use Rattle.parcels.specs.Asked.{asked}
use Rattle.parcels.specs.Parcel.{parcel_of}
use Rattle.parcels.specs.declared.Refusal.{Refusal}
use Rattle.parcels.specs.declared.Refusal.TheVariants.{SlicesDiffer, OverLimit, BytesTooShort}

-- a parcel of n rows has this many bytes
abbrev pub length_of : ℕ → ℕ
length_of n = 20 + 6 * n

-- the answer, from the table and the lent bytes
unfoldable pub write_of : List ℕ → List ℕ → List ℕ → Result ℕ Refusal
write_of depths labels bytes =
    asked (length depths == length labels) (Err SlicesDiffer)
    (asked (nat_le (length labels) listing_rows) (Err OverLimit)
    (asked (nat_le (length_of (length labels)) (length bytes)) (Err BytesTooShort)
    (Ok (length_of (length labels)))))

-- the lent bytes after an answer: the parcel and the bytes after it as they were; after a refusal all as they were
abbrev pub written_by : Result ℕ Refusal → List ℕ → List ℕ → List ℕ
written_by (Ok n) parcel bytes = parcel ++ drop n bytes
written_by (Err r) parcel bytes = bytes

abbrev pub written : List ℕ → List ℕ → List ℕ → List ℕ
written depths labels bytes = written_by (write_of depths labels bytes) (parcel_of depths labels) bytes
