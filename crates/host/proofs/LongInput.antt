-- No byte beyond the first 26,153 counts: every input that is longer has the line of those alone. Assumes nothing.
use mathlib.Core.Path.{◌≡◌, refl, sym, ap, ◌∙◌}
use mathlib.Core.List.{List, [], ◌∷◌}
use Prim.Native.Nat.{ℕ, zero, suc, ◌+◌, ◌*◌, ◌-◌, ◌≤◌, ◌<◌}
use native.Mathlib.Nat.{mul-suc, mul-le-mul}
use native.Mathlib.Decide.{dec_le}
use native.Mathlib.Omega.{arith}
use lib.Dec.{ltb}
use lib.ListN.{length, take, drop}
use lib.Seq.{length-take-le, take-nil}
use borrow.Author.Tests.{lt-ltb}
use Rattle.std.specs.Prelude.{Result, Ok, Err}
use Rattle.rows.specs.Limits.{recipe_rows, listing_rows}
use Rattle.parcels.specs.Numbers.{number, numbers}
use Rattle.parcels.specs.Read.{most_rows, after, section_of, followed, claim_of, labels_at, depths_at, sums_at, labels_in, depths_in, sums_agree, agreed_of, room_of, read_of}
use Rattle.parcels.specs.declared.Limit.{Limit}
use Rattle.parcels.specs.declared.Limit.TheVariants.{Recipe, Listing}
use Rattle.parcels.specs.declared.Refusal.{Refusal}
use Rattle.parcels.specs.declared.Refusal.TheVariants.{SecondCount, ThirdCount, FirstCount}
use Rattle.parcels.specs.declared.Rows.{Rows}
use Rattle.parcels.proofs.Judging.{counted_low, counted_high, found_whole}
use Rattle.parcels.proofs.Accepting.{claimed, accepted}
use Rattle.host.specs.Outcome.{zeros, recipe_read, listing_read, FromListing, FromRecipe, Said}
use Rattle.host.specs.Host.{LineIs}
use Rattle.host.specs.declared.outcome.Outcome.{Outcome}
use Rattle.host.specs.declared.outcome.Refusal as said

drop_take : (m n : ℕ) (l : List ℕ) → m ≤ n → drop m (take n l) ≡ take (n - m) (drop m l)
drop_take zero n l h = let e : n - 0 ≡ n = omega arith in rw e
drop_take (suc m) zero l h = absurd (omega arith)
drop_take (suc m) (suc n) [] h = sym (take-nil (suc n - suc m))
drop_take (suc m) (suc n) (x ∷ l) h = let e : suc n - suc m ≡ n - m = omega arith in rw e (drop_take m n l (omega arith))

-- the numbers that stand in the first k bytes
number_take : (w k : ℕ) (l : List ℕ) → w ≤ k → number w (take k l) ≡ number w l
unfolding number
number_take zero k l h = refl
number_take (suc w) zero l h = absurd (omega arith)
number_take (suc w) (suc k) [] h = refl
number_take (suc w) (suc k) (x ∷ l) h = rw (number_take w k l (omega arith))

numbers_take : (w n k : ℕ) (l : List ℕ) → w * n ≤ k → numbers w n (take k l) ≡ numbers w n l
unfolding numbers
numbers_take w zero k l h = refl
numbers_take w (suc n) k l h =
    let e = mul-suc w n in
    rw (number_take w k l (omega arith), drop_take w k l (omega arith), numbers_take w n (k - w) (drop w l) (omega arith))

-- an input and its first `front` bytes
module _ (input : List ℕ) (front : ℕ) (long : front ≤ length input) where
  abbrev part : List ℕ
  part = take front input

  part_length : length part ≡ front
  part_length = length-take-le front input long

  number_front : (w at : ℕ) → at + w ≤ front → number w (drop at part) ≡ number w (drop at input)
  number_front w at h = rw (drop_take at front input (omega arith)) (number_take w (front - at) (drop at input) (omega arith))

  numbers_front : (w n at : ℕ) → at + w * n ≤ front → numbers w n (drop at part) ≡ numbers w n (drop at input)
  numbers_front w n at h = rw (drop_take at front input (omega arith)) (numbers_take w n (front - at) (drop at input) (omega arith))

  -- a section for which there is room whatever its count: neither input ends inside it
  section_front : (at least most width : ℕ) (miscounted : Refusal) (next next' : ℕ → ℕ → Result Rows Refusal) → at + 4 + width * most ≤ front
      → ((n : ℕ) → least ≤ n → n ≤ most → next n (after at width n) ≡ next' n (after at width n))
      → followed (section_of part at least most width miscounted) next ≡ followed (section_of input at least most width miscounted) next'
  section_front at least most width miscounted next next' room f = go (dec_le least count) (dec_le count most)
    where
      count : ℕ
      count = number 4 (drop at input)

      same : count ≡ number 4 (drop at part)
      same = sym (number_front 4 at (omega arith))

      go : Dec (least ≤ count) → Dec (count ≤ most)
          → followed (section_of part at least most width miscounted) next ≡ followed (section_of input at least most width miscounted) next'
      go (no l) k =
          rw (
            counted_low part at least most width miscounted (omega (arith, part_length)) count same (omega arith),
            counted_low input at least most width miscounted (omega arith) count refl (omega arith),
          )
      go (yes l) (no k) =
          rw (
            counted_high part at least most width miscounted (omega (arith, part_length)) count same l (omega arith),
            counted_high input at least most width miscounted (omega arith) count refl l (omega arith),
          )
      go (yes l) (yes k) =
          let w : width * count ≤ width * most = mul-le-mul {n₁ = width} {m₁ = count} {n₂ = width} {m₂ = most} (omega arith) k in
          rw (
            found_whole part at least most width miscounted (omega (arith, part_length)) count same l k (omega (arith, part_length)),
            found_whole input at least most width miscounted (omega arith) count refl l k (omega arith),
          ) (f count l k)

  claim_front : (start most : ℕ) → start + (20 + 6 * most) ≤ front → claim_of part start most ≡ claim_of input start most
  unfolding claim_of
  claim_front start most h =
      section_front start 0 most 4 (FirstCount start) _ _ (omega arith) (λ n _ k.
      section_front (after start 4 n) n n 2 (SecondCount (after start 4 n)) _ _ (omega arith) (λ m _ j.
      section_front (after (after start 4 n) 2 m) 2 2 4 (ThirdCount (after (after start 4 n) 2 m)) _ _ (omega arith) (λ _ _ _. refl)))

  module _ (start n : ℕ) (h : start + (20 + 6 * n) ≤ front) where
    labels_front : labels_in part start n ≡ labels_in input start n
    labels_front = numbers_front 4 n (labels_at start) (omega arith)

    depths_front : depths_in part start n ≡ depths_in input start n
    depths_front = numbers_front 2 n (depths_at start n) (omega arith)

    sums_front : sums_agree part start n ≡ sums_agree input start n
    unfolding sums_agree
    sums_front = rw (labels_front, depths_front, number_front 4 (sums_at start n) (omega arith), number_front 4 (sums_at start n + 4) (omega arith))

  read_front : (start : ℕ) (limit : Limit) (depths labels : List ℕ) → start + (20 + 6 * most_rows limit) ≤ front
      → read_of part start limit depths labels ≡ read_of input start limit depths labels
  read_front start limit depths labels h =
      ap (λ (a : Result Rows Refusal). room_of (agreed_of part start a) (length depths) (length labels)) (claim_front start (most_rows limit) h)
      ∙ go (claim_of input start (most_rows limit)) refl
    where
      go : (a : Result Rows Refusal) → claim_of input start (most_rows limit) ≡ a
          → room_of (agreed_of part start a) (length depths) (length labels) ≡ room_of (agreed_of input start a) (length depths) (length labels)
      go (Err x) e = refl
      go (Ok rows) e = let c = claimed input start (most_rows limit) rows.count rows.next e in rw (sums_front start rows.count (omega (arith, c.high)))

-- one byte more than two parcels can have
abbrev pub enough_bytes : ℕ
enough_bytes = 26153

module _ (input : List ℕ) (long : enough_bytes ≤ length input) (outcome : Result Outcome said.Refusal) (map : List ℕ) where
  abbrev first : List ℕ
  first = take enough_bytes input

  -- both inputs go on behind the listing's parcel
  end_front : (end : ℕ) → end < enough_bytes → ltb end (length first) ≡ ltb end (length input)
  end_front end h = lt-ltb end (length first) (omega (arith, part_length input enough_bytes long)) ∙ sym (lt-ltb end (length input) (omega arith))

  listing_front : (rd rl : List ℕ) (start : ℕ) → start + (20 + 6 * listing_rows) < enough_bytes → (a : Result Rows Refusal) → listing_read input start ≡ a
      → FromListing first rd rl start a outcome map → FromListing input rd rl start a outcome map
  listing_front rd rl start h (Err x) e f = f
  listing_front rd rl start h (Ok rows) e f =
      let m = rows.count in
      let end = rows.next in
      let c = (accepted input start Listing (zeros listing_rows) (zeros listing_rows) m end e).claimed in
      let d = depths_front input enough_bytes long start m (omega (arith, c.high)) in
      let l = labels_front input enough_bytes long start m (omega (arith, c.high)) in
      rw (d, l, end_front end (omega (arith, c.high, c.place))) at f

  recipe_front : (a : Result Rows Refusal) → recipe_read input ≡ a → FromRecipe first a outcome map → FromRecipe input a outcome map
  recipe_front (Err x) e f = f
  recipe_front (Ok rows) e f =
      let n = rows.count in
      let next = rows.next in
      let c = (accepted input 0 Recipe (zeros recipe_rows) (zeros recipe_rows) n next e).claimed in
      let d = depths_front input enough_bytes long 0 n (omega (arith, c.high)) in
      let l = labels_front input enough_bytes long 0 n (omega (arith, c.high)) in
      let r = read_front input enough_bytes long next Listing (zeros listing_rows) (zeros listing_rows) (omega (arith, c.high, c.place)) in
      listing_front (depths_in input 0 n) (labels_in input 0 n) next (omega (arith, c.high, c.place)) (listing_read input next) refl (rw (d, l, r) at f)

  -- what is said of the first bytes is said of the whole input
  pub said_front : Said first outcome map → Said input outcome map
  said_front s =
      let r = read_front input enough_bytes long 0 Recipe (zeros recipe_rows) (zeros recipe_rows) (omega arith) in
      record { by_reading = recipe_front (recipe_read input) refl (rw r at s.by_reading) }

-- the line of the first bytes is the line of the whole input
pub line_front : (input bytes : List ℕ) → enough_bytes ≤ length input → LineIs (take enough_bytes input) bytes → LineIs input bytes
line_front input bytes long l =
    record { outcome = l.outcome; map = l.map; said = said_front input long l.outcome l.map l.said; line = l.line }
