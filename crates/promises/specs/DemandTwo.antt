-- Demand 2: "Yes exactly if an ordered embedding exists (labels, ancestors, left-to-right order kept both ways). A yes carries the
-- earliest-close map, a no the highest and widest left corner. Written parcels read back as the same rows; each table has one parcel."
-- Assumes nothing.
use Rattle.std.specs.Prelude.{◌≡◌, ◌↔◌, ◌⊎◌, true, false, Ok, List, ◌++◌, ℕ, ◌+◌, ◌*◌, ◌-◌, ◌≤◌, eqb, length, take, drop}
use Rattle.rows.specs.Limits.{recipe_rows}
use Rattle.rows.specs.Rows.{at, Row, depth, Ancestor, LeftOf, tally}
use Rattle.rows.specs.Embedding.{SameLabel}
use Rattle.matching.specs.declared.Answer.TheVariants as answer
use Rattle.matching.specs.declared.Corner.{Corner}
use Rattle.matching.specs.Refusals.{GoodTables}
use Rattle.matching.specs.Answer.{Answers}
use Rattle.matching.specs.Judge.{Judged}
use Rattle.matching.specs.Corner.{CornerIs}
use Rattle.matching.specs.EarliestClose.{EarliestClose}
use Rattle.parcels.specs.Table.{Bytes, Table}
use Rattle.parcels.specs.Parcel.{parcel_of}
use Rattle.parcels.specs.declared.Limit.{Limit}
use Rattle.parcels.specs.declared.Limit.TheVariants.{Recipe, Listing}
use Rattle.parcels.specs.Read.{given}
use Rattle.promises.specs.Calls.{Inclusion, Judgement, ReadAnswer, Reads, Writes}

-- the answer is a yes, or a no
abbrev pub Yes : Inclusion → Type 0
Yes r = (c : Corner) × (r ≡ Ok (answer.Included c))

abbrev pub No : Inclusion → Type 0
No r = (c : Corner) × (r ≡ Ok (answer.Absent c))

-- an ordered embedding, spelled out: a map of each recipe row to a listing row with its label, one to one, where ancestry holds between
-- two rows exactly if it holds between their images, and likewise left-of
pub record Ordered (rd rl td tl map : List ℕ) : Type 0 where
  pub lands : (v : ℕ) → Row rd v → Row td (at map v)
  pub labels : (v : ℕ) → Row rd v → at rl v ≡ at tl (at map v)
  pub once : (u v : ℕ) → Row rd u → Row rd v → at map u ≡ at map v → u ≡ v
  pub ancestors : (u v : ℕ) → Row rd u → Row rd v → Ancestor rd u v ↔ Ancestor td (at map u) (at map v)
  pub left_to_right : (u v : ℕ) → Row rd u → Row rd v → LeftOf rd u v ↔ LeftOf td (at map u) (at map v)

abbrev pub Exists : List ℕ → List ℕ → List ℕ → List ℕ → Type 0
Exists rd rl td tl = (map : List ℕ) × (length map ≡ length rd) × Ordered rd rl td tl map

-- of an answer r to a recipe (depths rd, labels rl) and a listing (td, tl), with the map slice m before and n afterwards
pub record Decides (rd rl td tl m : List ℕ) (r : Inclusion) (n : List ℕ) : Type 0 where
  -- good tables and a long enough map slice get a yes or a no, never a refusal
  pub decides : GoodTables rd rl td tl → length rd ≤ length m → Yes r ⊎ No r
  -- yes exactly if an ordered embedding exists
  pub yes_exactly : GoodTables rd rl td tl → length rd ≤ length m → Yes r ↔ Exists rd rl td tl
  -- no exactly if there is none
  pub no_exactly : GoodTables rd rl td tl → length rd ≤ length m → No r ↔ (Exists rd rl td tl → ⊥)
  -- a yes writes the earliest-close map, which is such an embedding, in front of the map slice, and no further slot
  pub yes_map : Yes r → EarliestClose (SameLabel rl tl) rd td (take (length rd) n) × Ordered rd rl td tl (take (length rd) n)
      × (drop (length rd) n ≡ drop (length rd) m)
  -- there is only one earliest-close map
  pub one_map : Yes r → (map : List ℕ) → EarliestClose (SameLabel rl tl) rd td map → map ≡ take (length rd) n
  -- a yes carries the whole recipe as its corner: row 0 and as many subtrees as there are roots
  pub yes_corner : (c : Corner) → r ≡ Ok (answer.Included c) → (c.row ≡ 0) × (c.width ≡ tally (λ u. eqb (depth rd u) 0) (length rd))
  -- a no carries the highest and widest left corner that embeds, and leaves the map slice as it was
  pub no_corner : (c : Corner) → r ≡ Ok (answer.Absent c) → CornerIs (SameLabel rl tl) rd td c.width c.row × (n ≡ m)
  -- there is only one such corner
  pub one_corner : (c : Corner) → r ≡ Ok (answer.Absent c) → (width row : ℕ) → CornerIs (SameLabel rl tl) rd td width row → (width ≡ c.width) × (row ≡ c.row)
  -- the plain judge says yes exactly where the answer is yes, and no exactly where it is no
  pub judge_yes : GoodTables rd rl td tl → length rd ≤ length m → (s : Judgement) → Judged rd rl td tl s → Yes r ↔ (s ≡ Ok true)
  pub judge_no : GoodTables rd rl td tl → length rd ≤ length m → (s : Judgement) → Judged rd rl td tl s → No r ↔ (s ≡ Ok false)

-- the read of a table's rows at a place: their count and the place after a parcel of that size; the rows in the first slots of the lent
-- slices, all later slots as they were
pub record GivesBack (depths labels : List ℕ) (start size : ℕ) (r : ReadAnswer) (old_depths old_labels new_depths new_labels : List ℕ) : Type 0 where
  pub answer : r ≡ given (length labels) (start + size)
  pub depths_back : new_depths ≡ depths ++ drop (length labels) old_depths
  pub labels_back : new_labels ≡ labels ++ drop (length labels) old_labels

-- the bytes of an input from a place up to another were read as n rows, which stand in the first slots of the lent slices
pub record ReadAs (bytes : List ℕ) (start n next : ℕ) (depths labels : List ℕ) : Type 0 where
  pub limit : Limit
  pub old_depths : List ℕ
  pub old_labels : List ℕ
  pub new_depths : List ℕ
  pub new_labels : List ℕ
  pub input : Bytes bytes
  pub reads : Reads bytes start limit old_depths old_labels (given n next) new_depths new_labels
  pub depths_read : depths ≡ take n new_depths
  pub labels_read : labels ≡ take n new_labels

abbrev pub stretch : List ℕ → ℕ → ℕ → List ℕ
stretch bytes start next = take (next - start) (drop start bytes)

pub record DemandTwo : Type 0 where
  -- the answer, whatever the inclusion call is lent
  pub answer : (rd rl td tl m : List ℕ) (r : Inclusion) (n : List ℕ) → Answers rd rl td tl m r n → Decides rd rl td tl m r n
  -- a written parcel has 20 + 6n bytes, stands in front of the lent bytes, and the bytes after it stay
  pub written : (depths labels bytes : List ℕ) (size : ℕ) (new_bytes : List ℕ) → Writes depths labels bytes (Ok size) new_bytes
      → (size ≡ 20 + 6 * length labels) × (take size new_bytes ≡ parcel_of depths labels) × (drop size new_bytes ≡ drop size bytes)
  -- a written parcel, wherever it stands in an input, reads back as the same rows: at the listing's limit, and at the recipe's for up to 256 rows
  pub reads_back : (depths labels bytes : List ℕ) (size : ℕ) (new_bytes : List ℕ) → Table depths labels → Writes depths labels bytes (Ok size) new_bytes
      → (before behind old_depths old_labels : List ℕ) → length labels ≤ length old_depths → length labels ≤ length old_labels
      → (r : ReadAnswer) (new_depths new_labels : List ℕ)
      → (Reads (before ++ (take size new_bytes ++ behind)) (length before) Listing old_depths old_labels r new_depths new_labels
      → GivesBack depths labels (length before) size r old_depths old_labels new_depths new_labels)
      × (length labels ≤ recipe_rows
      → Reads (before ++ (take size new_bytes ++ behind)) (length before) Recipe old_depths old_labels r new_depths new_labels
      → GivesBack depths labels (length before) size r old_depths old_labels new_depths new_labels)
  -- each table has one parcel: bytes that were read as rows are the parcel of those rows, of length 20 + 6n
  pub one_parcel : (bytes : List ℕ) (start n next : ℕ) (depths labels : List ℕ) → ReadAs bytes start n next depths labels
      → (next ≡ start + (20 + 6 * n)) × (stretch bytes start next ≡ parcel_of depths labels)
  -- so bytes that were read as the same rows are the same bytes, wherever they stood
  pub same_bytes : (bytes other : List ℕ) (start place n k next after : ℕ) (depths labels : List ℕ) → ReadAs bytes start n next depths labels
      → ReadAs other place k after depths labels → stretch bytes start next ≡ stretch other place after
