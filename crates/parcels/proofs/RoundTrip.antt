-- What was written reads back: numbers, runs of numbers, sections, and a whole parcel wherever it stands in an input. Assumes nothing.
use Rattle.std.proofs.Common.{◌≡◌, ℕ, zero, suc, ◌+◌, ◌-◌, ◌*◌, ◌/◌, ◌^◌, ◌<◌, ◌≤◌, true, List, [], ◌∷◌, ◌++◌, length, drop, sym, refl, ap, ◌∙◌, append_assoc, append-nil, div-lt_iff_lt-mul, arith, length-append, length-drop, drop-drop, drop_at}
use native.Mathlib.Nat.{pow-succ'}
use lib.Seq.{drop-append_seam}
use Rattle.rows.specs.Limits.{listing_rows}
use Rattle.parcels.specs.Numbers.{le, number, fields, numbers}
use Rattle.parcels.specs.declared.sums.Sums.{Sums}
use Rattle.parcels.specs.Sums.{none, added, added_all}
use Rattle.parcels.specs.Table.{Below, Table}
use Rattle.parcels.specs.Parcel.{words, sums_of, section, both, parcel_of}
use Rattle.parcels.specs.Read.{most_rows, given, after, sums_at, labels_in, depths_in, sums_agree, read_of}
use Rattle.parcels.specs.declared.Limit.{Limit}
use Rattle.parcels.proofs.Runs.{le_length}
use Rattle.parcels.proofs.Sections.{section_length}
use Rattle.parcels.proofs.Judging.{both_agree}
use Rattle.parcels.proofs.Accepting.{accepts}

-- a number
number_back : (w x : ℕ) (rest : List ℕ) → x < 256 ^ w → number w (le w x ++ rest) ≡ x
unfolding number le
number_back zero x rest h = omega arith
number_back (suc w) x rest h =
    let q : x / 256 < 256 ^ w = (div-lt_iff_lt-mul {k = 256} {x = x} {y = 256 ^ w} (omega arith)).1 (omega (arith, pow-succ' 256 w)) in
    omega (arith, number_back w (x / 256) rest q)

number_over : (w x : ℕ) (rest : List ℕ) → drop w (le w x ++ rest) ≡ rest
number_over w x rest = drop_at (le w x) rest w (le_length w x)

-- a run of numbers
numbers_back : (w : ℕ) (xs rest : List ℕ) → Below (256 ^ w) xs → numbers w (length xs) (fields w xs ++ rest) ≡ xs
unfolding numbers fields
numbers_back w [] rest b = refl
numbers_back w (x ∷ xs) rest b =
    rw (append_assoc (le w x) (fields w xs) rest, number_back w x (fields w xs ++ rest) b.0, number_over w x (fields w xs ++ rest))
    (ap (λ (r : List ℕ). x ∷ r) (numbers_back w xs rest b.1))

-- a section that stands at a place of an input
pub record Stands (bytes : List ℕ) (at w : ℕ) (xs rest : List ℕ) : Type 0 where
  pub count : number 4 (drop at bytes) ≡ length xs
  pub values : numbers w (length xs) (drop (at + 4) bytes) ≡ xs
  pub next : drop (after at w (length xs)) bytes ≡ rest
  pub within : after at w (length xs) ≤ length bytes

pub stands : (bytes : List ℕ) (at w : ℕ) (xs rest : List ℕ) → length xs < 256 ^ 4 → Below (256 ^ w) xs → drop at bytes ≡ section w xs ++ rest
    → Stands bytes at w xs rest
unfolding section
stands bytes at w xs rest small b e =
    let f : drop at bytes ≡ le 4 (length xs) ++ (fields w xs ++ rest) = e ∙ append_assoc (le 4 (length xs)) (fields w xs) rest in
    let four : drop (at + 4) bytes ≡ fields w xs ++ rest = sym (drop-drop 4 at bytes) ∙ ap (drop 4) f ∙ number_over 4 (length xs) (fields w xs ++ rest) in
    let l : length bytes - at ≡ length (section w xs ++ rest) = sym (length-drop at bytes) ∙ ap length e in
    let s : at + length (section w xs) ≡ after at w (length xs) = omega (arith, section_length w xs) in
    record {
      count = ap (number 4) f ∙ number_back 4 (length xs) (fields w xs ++ rest) small;
      values = ap (numbers w (length xs)) four ∙ numbers_back w xs rest b;
      next = ap (λ (k : ℕ). drop k bytes) (sym s) ∙ sym (drop-drop (length (section w xs)) at bytes) ∙ ap (drop (length (section w xs))) e
          ∙ drop-append_seam (section w xs) rest;
      within = omega (arith, section_length w xs, length-append (section w xs) rest);
    }

-- the sums are numbers of four bytes
sums_fit : (sums : Sums) (ws : List ℕ) → sums.first < 2 ^ 32 → sums.second < 2 ^ 32 → Below (256 ^ 4) (both (added_all sums ws))
unfolding added added_all
sums_fit sums [] h k = (h, (k, tt))
sums_fit sums (w ∷ ws) h k = sums_fit (added sums w) ws (omega arith) (omega arith)

-- a parcel that stands at a place of an input, with anything after it
module _ (bytes : List ℕ) (start : ℕ) (depths labels rest : List ℕ) (table : Table depths labels) (few : length labels ≤ listing_rows)
    (e : drop start bytes ≡ parcel_of depths labels ++ rest) where
  abbrev n : ℕ
  n = length labels

  abbrev sums : List ℕ
  sums = both (sums_of depths labels)

  first : Stands bytes start 4 labels (section 2 depths ++ (section 4 sums ++ rest))
  unfolding parcel_of
  first =
      stands bytes start 4 labels (section 2 depths ++ (section 4 sums ++ rest)) (omega arith) table.labels_fit
      (e ∙ rw (
        append-nil (section 4 sums),
        append_assoc (section 4 labels) (section 2 depths ++ section 4 sums) rest,
        append_assoc (section 2 depths)
            (section 4 sums) rest,
      ))

  second : Stands bytes (after start 4 n) 2 depths (section 4 sums ++ rest)
  second = stands bytes (after start 4 n) 2 depths (section 4 sums ++ rest) (omega (arith, table.same)) table.depths_fit first.next

  third : Stands bytes (after (after start 4 n) 2 n) 4 sums rest
  unfolding none
  third =
      stands bytes (after (after start 4 n) 2 n) 4 sums rest (omega arith) (sums_fit none (words n labels depths) (omega arith) (omega arith))
      (rw table.same at second.next)

  -- its rows are the table's
  pub rows_back : (depths_in bytes start n ≡ depths) × (labels_in bytes start n ≡ labels)
  rows_back = (rw table.same at second.values, first.values)

  agree : sums_agree bytes start n ≡ true
  unfolding numbers
  agree =
      let v = third.values in
      both_agree bytes start n (sums_of depths labels) (rw (rows_back.0, rows_back.1)) (cc) (cc (drop-drop 4 (sums_at start n) bytes))

  -- and it is accepted, where the limit and the lent row slices allow
  pub accepted_back : (limit : Limit) (depth_slots label_slots : List ℕ) → n ≤ most_rows limit → n ≤ length depth_slots → n ≤ length label_slots
      → read_of bytes start limit depth_slots label_slots ≡ given n (start + (20 + 6 * n))
  accepted_back limit depth_slots label_slots h d l =
      accepts bytes start limit depth_slots label_slots n (start + (20 + 6 * n)) (record {
        claimed = record {
          first = first.count;
          high = h;
          second = second.count ∙ table.same;
          third = third.count;
          place = refl;
          within = omega (arith, third.within);
        };
        agree = agree;
        depths_room = d;
        labels_room = l;
      })
