-- Sections and parcels put into bytes one part after another, and their lengths. Assumes nothing.
use Rattle.std.proofs.Common.{◌≡◌, ℕ, ◌+◌, ◌*◌, List, ◌++◌, length, sym, ◌∙◌, append_assoc, append-nil, arith, length-append}
use lib.Seq.{sets}
use Rattle.parcels.specs.Numbers.{le, fields}
use Rattle.parcels.specs.Parcel.{section, both, sums_of, parcel_of}
use Rattle.parcels.proofs.LittleEndian.{sets_append}
use Rattle.parcels.proofs.Runs.{le_length, fields_length}

-- the second part of a run is put where the first ends
put_then : (bytes : List ℕ) {first second : List ℕ} (at next : ℕ) (xs ys : List ℕ) → first ≡ sets bytes at xs → second ≡ sets first next ys
    → next ≡ at + length xs → second ≡ sets bytes at (xs ++ ys)
put_then bytes at next xs ys e f g = f ∙ rw (e, g) (sym (sets_append xs ys bytes at))

-- a section has four bytes for its count, and its fields
pub section_length : (w : ℕ) (xs : List ℕ) → length (section w xs) ≡ 4 + w * length xs
unfolding section
section_length w xs = omega (arith, length-append (le 4 (length xs)) (fields w xs), le_length 4 (length xs), fields_length w xs)

-- a section is put as its count and its fields
pub put_section : (bytes : List ℕ) {first second : List ℕ} (w at : ℕ) (xs : List ℕ) → first ≡ sets bytes at (le 4 (length xs))
    → second ≡ sets first (at + 4) (fields w xs) → second ≡ sets bytes at (section w xs)
unfolding section
put_section bytes w at xs e f = put_then bytes at (at + 4) (le 4 (length xs)) (fields w xs) e f (omega (arith, le_length 4 (length xs)))

-- a parcel has this many bytes
pub parcel_length : (ds ls : List ℕ) → length ds ≡ length ls → length (parcel_of ds ls) ≡ 20 + 6 * length ls
unfolding parcel_of
parcel_length ds ls e =
    let s = both (sums_of ds ls) in
    rw (append-nil (section 4 s))
    (omega (
      arith,
      length-append (section 4 ls) (section 2 ds ++ section 4 s),
      length-append (section 2 ds)
          (section 4 s),
      section_length 4 ls,
      section_length 2 ds,
      section_length 4 s,
    ))

-- a parcel is put as its three sections
pub put_sections : (bytes : List ℕ) {first second third : List ℕ} (ds ls : List ℕ) → length ds ≡ length ls → first ≡ sets bytes 0 (section 4 ls)
    → second ≡ sets first (4 + 4 * length ls) (section 2 ds) → third ≡ sets second (8 + 6 * length ls) (section 4 (both (sums_of ds ls)))
    → third ≡ sets bytes 0 (parcel_of ds ls)
unfolding parcel_of
put_sections bytes ds ls l e f g =
    let s = section 4 (both (sums_of ds ls)) in
    let h = put_then bytes 0 (4 + 4 * length ls) (section 4 ls) (section 2 ds) e f (omega (arith, section_length 4 ls)) in
    let k : 8 + 6 * length ls ≡ 0 + length (section 4 ls ++ section 2 ds) =
    omega (arith, length-append (section 4 ls) (section 2 ds), section_length 4 ls, section_length 2 ds) in
    put_then bytes 0 (8 + 6 * length ls) (section 4 ls ++ section 2 ds) s h g k ∙ rw (append-nil s, append_assoc (section 4 ls) (section 2 ds) s)
