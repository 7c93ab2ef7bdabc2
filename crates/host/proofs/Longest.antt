-- The longest line: no line of an input has more than 1,295 bytes. Assumes nothing.
use mathlib.Core.Path.{◌≡◌, refl, ap}
use mathlib.Core.Bool.{Bool, true, false}
use mathlib.Core.List.{List, [], ◌∷◌}
use Prim.Native.Nat.{ℕ, suc, ◌^◌, ◌≤◌, ◌<◌}
use native.Mathlib.Omega.{arith}
use lib.Dec.{ltb}
use lib.ListN.{length, take, drop, get_or, length-append}
use lib.Seq.{take_at}
use Rattle.std.specs.Prelude.{Result, Ok, Err}
use Rattle.rows.specs.Limits.{recipe_rows, listing_rows}
use Rattle.parcels.specs.Read.{depths_at, depths_in, labels_in}
use Rattle.parcels.specs.declared.Limit.TheVariants.{Recipe, Listing}
use Rattle.parcels.specs.declared.Refusal as parcel
use Rattle.parcels.specs.declared.Rows.{Rows}
use Rattle.parcels.proofs.LittleEndian.{numbers_length}
use Rattle.parcels.proofs.Accepting.{accepted}
use Rattle.matching.specs.Answer.{Answers}
use Rattle.matching.specs.EarliestClose.{EarliestClose}
use Rattle.matching.specs.declared.Answer.{Answer}
use Rattle.matching.specs.declared.Answer.TheVariants as answer
use Rattle.matching.specs.declared.Corner.{Corner}
use Rattle.matching.specs.declared.Refusal as table
use Rattle.host.specs.Line.{spaced, line, included_word, absent_word, refused_word}
use Rattle.host.specs.Refusals.{said_number, said_place}
use Rattle.host.specs.Outcome.{zeros, recipe_read, listing_read, outcome_of, RefusedAs, FromTables, FromListing, FromRecipe, Said}
use Rattle.host.specs.Host.{line_of, images_of, answer_bytes, LineIs, Shown, Entered, Entry}
use Rattle.host.specs.declared.outcome.Outcome.{Outcome}
use Rattle.host.specs.declared.outcome.Outcome.TheVariants.{Absent}
use Rattle.host.specs.declared.outcome.Refusal.{Refusal}
use Rattle.host.specs.declared.outcome.Refusal.TheVariants.{Parcel, BytesAfter, Tables}
use Rattle.host.proofs.Digits.{digits_width, spaced_width}
use Rattle.host.proofs.Putting.{line_length}
use Rattle.host.proofs.Places.{read_place, table_place, said_small}
use Rattle.host.proofs.Corners.{whole_width, corner_row, corner_width}

-- a number of two digits and a place that fits 64 bits
refused_fits : (map : List ℕ) (x : Refusal) → said_place x < 2 ^ 64 → length (line_of (Err x) map) ≤ answer_bytes
unfolding spaced
refused_fits map x h =
    let number = said_number x in
    let place = said_place x in
    omega (arith, line_length refused_word number place [], digits_width 1 number (said_small x), digits_width 19 place (omega arith))

absent_fits : (map : List ℕ) (c : Corner) → c.width ≤ 256 → c.row ≤ 257 → length (line_of (Ok (Absent c)) map) ≤ answer_bytes
unfolding spaced
absent_fits map c h k =
    omega (arith, line_length absent_word c.width c.row [], digits_width 2 c.width (omega arith), digits_width 2 c.row (omega arith))

-- 9 bytes, 3 digits of the width, a space and the row 0, 256 images of 4 digits each after a space, and the newline: 1,295
included_fits : (c : Corner) (images : List ℕ) → c.width ≤ 256 → c.row ≡ 0 → length images ≤ 256
    → ((i : ℕ) → i < length images → get_or images i 0 < 10000) → length (line included_word (c.width ∷ c.row ∷ images)) ≤ answer_bytes
included_fits c images h z l k =
    omega (arith, line_length included_word c.width c.row images, digits_width 2 c.width (omega arith), digits_width 0 c.row (omega arith), spaced_width images k)

-- the images of a map are rows of the listing
module _ (Fit : ℕ → ℕ → Type 0) (rd td k : List ℕ) (e : EarliestClose Fit rd td k) where
  image_small : length td ≤ 4096 → (i : ℕ) → i < length k → get_or k i 0 < 10000
  image_small h i l = let a = (e.each (suc i) (omega arith, omega (arith, e.count))).allowed.row in omega (arith, a.1)

-- a line fits an answer buffer, and the map has its images
abbrev pub Fits : Result Outcome Refusal → List ℕ → Type 0
Fits outcome map = (length (line_of outcome map) ≤ answer_bytes) × (images_of outcome ≤ length map)

module _ (rd rl td tl : List ℕ) (r : length rd ≤ 256) (t : length td ≤ 4096) where
  answer_fits : (a : Result Answer table.Refusal) (map : List ℕ) → Answers rd rl td tl (zeros recipe_rows) a map → Fits (outcome_of (length rd) a) map
  answer_fits (Err x) map h = (refused_fits map (Tables x) (omega (arith, table_place rd td x rl tl (zeros recipe_rows) h.0)), omega arith)
  answer_fits (Ok (answer.Absent c)) map h =
      let w = corner_width _ rd td c.width c.row h.1 in
      (absent_fits map c (omega arith) (omega (arith, corner_row _ rd td c.width c.row h.1)), omega arith)
  answer_fits (Ok (answer.Included c)) map h =
      let k = h.3.0 in
      let e = h.3.1 in
      let first : take (length rd) map ≡ k = rw h.3.2 (take_at k _ (length rd) e.count) in
      let w = whole_width rd c.width c.row h.2 in
      let line = included_fits c k (omega arith) h.2.0 (omega (arith, e.count)) (image_small _ rd td k e t) in
      (rw first line, omega (arith, e.count, ap length h.3.2, length-append k (drop (length rd) (zeros recipe_rows))))

module _ (input : List ℕ) (size : length input < 2 ^ 64) where
  refusal_fits : (outcome : Result Outcome Refusal) (map : List ℕ) (x : Refusal) → said_place x ≤ length input → RefusedAs x outcome map → Fits outcome map
  refusal_fits outcome map x h r = rw r.0 (refused_fits map x (omega arith), omega arith)

  tables_fit : (rd rl td tl : List ℕ) → length rd ≤ 256 → length td ≤ 4096 → (end : ℕ) → end ≤ length input → (b : Bool) (outcome : Result Outcome Refusal) (map : List ℕ)
      → FromTables rd rl td tl end b outcome map → Fits outcome map
  tables_fit rd rl td tl r t end h true outcome map f = refusal_fits outcome map (BytesAfter end) h f
  tables_fit rd rl td tl r t end h false outcome map f = rw f.2 (answer_fits rd rl td tl r t f.0 map f.1)

  listing_fits : (rd rl : List ℕ) → length rd ≤ 256 → (start : ℕ) (outcome : Result Outcome Refusal) (map : List ℕ) (a : Result Rows parcel.Refusal) → listing_read input start ≡ a
      → FromListing input rd rl start a outcome map → Fits outcome map
  listing_fits rd rl r start outcome map (Err x) e f =
      refusal_fits outcome map (Parcel x) (read_place input start Listing (zeros listing_rows) (zeros listing_rows) x e) f
  listing_fits rd rl r start outcome map (Ok rows) e f =
      let m = rows.count in
      let end = rows.next in
      let c = (accepted input start Listing (zeros listing_rows) (zeros listing_rows) m end e).claimed in
      let d = numbers_length 2 m (drop (depths_at start m) input) in
      tables_fit rd rl (depths_in input start m) (labels_in input start m) r (omega (arith, d, c.high)) end c.within (ltb end (length input)) outcome map f

  recipe_fits : (outcome : Result Outcome Refusal) (map : List ℕ) (a : Result Rows parcel.Refusal) → recipe_read input ≡ a → FromRecipe input a outcome map → Fits outcome map
  recipe_fits outcome map (Err x) e f =
      refusal_fits outcome map (Parcel x) (read_place input 0 Recipe (zeros recipe_rows) (zeros recipe_rows) x e) f
  recipe_fits outcome map (Ok rows) e f =
      let n = rows.count in
      let next = rows.next in
      let c = (accepted input 0 Recipe (zeros recipe_rows) (zeros recipe_rows) n next e).claimed in
      let d = numbers_length 2 n (drop (depths_at 0 n) input) in
      listing_fits (depths_in input 0 n) (labels_in input 0 n) (omega (arith, d, c.high)) next outcome map (listing_read input next) refl f

  -- what is said of an input
  pub said_fits : (outcome : Result Outcome Refusal) (map : List ℕ) → Said input outcome map → Fits outcome map
  said_fits outcome map s = recipe_fits outcome map (recipe_read input) refl s.by_reading

  -- and so it can be shown
  pub said_shown : (outcome : Result Outcome Refusal) (map buffer : List ℕ) → Said input outcome map → answer_bytes ≤ length buffer → Shown outcome map buffer
  said_shown outcome map buffer s h = let f = said_fits outcome map s in record { fits = omega (arith, f.0); images = f.1 }

  -- the line of an input
  pub line_fits : (bytes : List ℕ) → LineIs input bytes → length bytes ≤ answer_bytes
  line_fits bytes l = rw l.line (said_fits l.outcome l.map l.said).0

-- the C entry's answer counts bytes of the buffer
pub entry_counts : {input before after : List ℕ} {r : ℕ} → Entry input before r after → r ≤ length after
entry_counts {input} {before} {after} {r} e = go (ltb (length before) answer_bytes) e.by_room
  where
    go : (b : Bool) → Entered b input before r after → r ≤ length after
    go true e = omega (arith, e.0)
    go false e = omega (arith, e.count, ap length e.stored, length-append e.bytes (drop (length e.bytes) before))
