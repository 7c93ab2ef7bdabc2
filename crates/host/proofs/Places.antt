-- The places of refusals: a parcel's lies within the input, a table's is one of its rows; and their numbers. Assumes nothing.
use mathlib.Core.Path.{◌≡◌, refl}
use mathlib.Core.Bool.{Bool, true, false, not}
use mathlib.Core.List.{List}
use Prim.Native.Nat.{ℕ, ◌+◌, ◌≤◌, ◌<◌}
use native.Mathlib.Decide.{dec_le}
use native.Mathlib.Omega.{arith}
use lib.Dec.{leb, ltb, eqb}
use lib.ListN.{length, drop}
use Rattle.std.specs.Prelude.{Result, Ok, Err}
use Rattle.rows.specs.Limits.{recipe_rows, listing_rows}
use Rattle.rows.specs.FirstBad.{first_bad, Says}
use Rattle.rows.specs.declared.BadRow.{BadRow}
use Rattle.rows.specs.declared.BadRow.TheVariants.{Step, TooDeep}
use Rattle.rows.proofs.FirstBad.{first_bad_iff}
use Rattle.parcels.specs.Asked.{asked}
use Rattle.parcels.specs.Numbers.{number}
use Rattle.parcels.specs.Read.{most_rows, after, section_of, followed, claim_of, Claim, sums_agree, sums_at, agreed_of, room_of, read_of}
use Rattle.parcels.specs.Refusals.{number_of, place_of}
use Rattle.parcels.specs.declared.Limit.{Limit}
use Rattle.parcels.specs.declared.Refusal as parcel
use Rattle.parcels.specs.declared.Refusal.TheVariants.{SecondCount, ThirdCount, SumDiffers, FirstCount, RowsTooShort}
use Rattle.parcels.specs.declared.Rows.{Rows}
use Rattle.parcels.proofs.Judging.{cut_count, counted_low, counted_high, cut_fields, found_whole}
use Rattle.parcels.proofs.Accepting.{claims, most_small}
use Rattle.matching.specs.Refusals.{refusal_number, refusal_place, refused_if, bad_row, recipe_check, listing_check, first}
use Rattle.matching.specs.Answer.{include_check}
use Rattle.matching.specs.declared.Refusal as table
use Rattle.host.specs.Refusals.{said_number}
use Rattle.host.specs.declared.outcome.Refusal.{Refusal}
use Rattle.host.specs.declared.outcome.Refusal.TheVariants.{Parcel, BytesAfter, Tables}
use Rattle.matching.specs.declared.Refusal.TheVariants.{RecipeSlices, RecipeEmpty, RecipeLong, RecipeStep, RecipeDeep, ListingSlices, ListingLong, ListingStep, ListingDeep, MapShort}

-- a reader's refusal has its place within the input
abbrev Within : List ℕ → Result Rows parcel.Refusal → Type 0
Within bytes (Err x) = place_of x ≤ length bytes
Within bytes (Ok rows) = Unit

module _ (bytes : List ℕ) where
  -- one section: an input that ends, a count that is not right, or what comes after
  section_within : (at least most width : ℕ) (miscounted : parcel.Refusal) (next : ℕ → ℕ → Result Rows parcel.Refusal)
      → (at ≤ length bytes → place_of miscounted ≤ length bytes) → ((n place : ℕ) → Within bytes (next n place))
      → Within bytes (followed (section_of bytes at least most width miscounted) next)
  section_within at least most width miscounted next m f =
      go (dec_le (at + 4) (length bytes)) (dec_le least count) (dec_le count most) (dec_le (after at width count) (length bytes))
    where
      count : ℕ
      count = number 4 (drop at bytes)

      go : Dec (at + 4 ≤ length bytes) → Dec (least ≤ count) → Dec (count ≤ most) → Dec (after at width count ≤ length bytes)
          → Within bytes (followed (section_of bytes at least most width miscounted) next)
      go (no h) l k w = rw (cut_count bytes at least most width miscounted (omega arith)) (omega arith)
      go (yes h) (no l) k w = rw (counted_low bytes at least most width miscounted h count refl (omega arith)) (m (omega arith))
      go (yes h) (yes l) (no k) w = rw (counted_high bytes at least most width miscounted h count refl l (omega arith)) (m (omega arith))
      go (yes h) (yes l) (yes k) (no w) = rw (cut_fields bytes at least most width miscounted h count refl l k (omega arith)) (omega arith)
      go (yes h) (yes l) (yes k) (yes w) = rw (found_whole bytes at least most width miscounted h count refl l k w) (f count (after at width count))

  claim_within : (start most : ℕ) → Within bytes (claim_of bytes start most)
  unfolding claim_of
  claim_within start most =
      section_within start 0 most 4 (FirstCount start) _ (λ h. h) (λ n second.
      section_within second n n 2 (SecondCount second) _ (λ h. h) (λ _ third.
      section_within third 2 2 4 (ThirdCount third) _ (λ h. h) (λ _ next. tt)))

  sums_within : (start : ℕ) (answer : Result Rows parcel.Refusal) → Within bytes answer → Claim bytes start answer → Within bytes (agreed_of bytes start answer)
  sums_within start (Err x) h c = h
  sums_within start (Ok rows) h c = go (sums_agree bytes start rows.count)
    where
      go : (b : Bool) → Within bytes (asked b (Err (SumDiffers (sums_at start rows.count))) (Ok rows))
      go true = tt
      go false = omega arith

  room_within : (answer : Result Rows parcel.Refusal) (depths labels : ℕ) → Within bytes answer → Within bytes (room_of answer depths labels)
  room_within (Err x) depths labels h = h
  room_within (Ok rows) depths labels h = go (leb rows.count depths) (leb rows.count labels)
    where
      go : (b d : Bool) → Within bytes (asked b (Err RowsTooShort) (asked d (Err RowsTooShort) (Ok rows)))
      go true true = tt
      go true false = omega arith
      go false d = omega arith

  -- a parcel's refusal
  pub read_place : (start : ℕ) (limit : Limit) (depths labels : List ℕ) (x : parcel.Refusal) → read_of bytes start limit depths labels ≡ Err x
      → place_of x ≤ length bytes
  read_place start limit depths labels x e =
      let c = claim_within start (most_rows limit) in
      let s = sums_within start (claim_of bytes start (most_rows limit)) c (claims bytes start (most_rows limit) (most_small limit)) in
      let r = room_within (agreed_of bytes start (claim_of bytes start (most_rows limit))) (length depths) (length labels) s in
      rw e at r

-- a table's refusal is one of its rows, or 0: by its tests, in their order
module _ (rd td : List ℕ) (x : table.Refusal) where
  tested : (b₁ b₂ b₃ : Bool) (r : Result (Unit {0}) BadRow) → Says rd r → (b₆ b₇ : Bool) (t : Result (Unit {0}) BadRow) → Says td t → (b₁₀ : Bool)
      → first (first (refused_if b₁ RecipeSlices (refused_if b₂ RecipeEmpty (refused_if b₃ RecipeLong (bad_row RecipeStep RecipeDeep r))))
      (refused_if b₆ ListingSlices (refused_if b₇ ListingLong (bad_row ListingStep ListingDeep t)))) (refused_if b₁₀ MapShort (Ok tt))
      ≡ Err x
      → refusal_place x ≤ length rd + length td
  tested true b₂ b₃ r s b₆ b₇ t u b₁₀ e = let f : x ≡ RecipeSlices = cc in rw f (omega arith)
  tested false true b₃ r s b₆ b₇ t u b₁₀ e = let f : x ≡ RecipeEmpty = cc in rw f (omega arith)
  tested false false true r s b₆ b₇ t u b₁₀ e = let f : x ≡ RecipeLong = cc in rw f (omega arith)
  tested false false false (Err (Step v)) s b₆ b₇ t u b₁₀ e = let f : x ≡ RecipeStep v = cc in rw f (omega (arith, s.row.1))
  tested false false false (Err (TooDeep v)) s b₆ b₇ t u b₁₀ e = let f : x ≡ RecipeDeep v = cc in rw f (omega (arith, s.row.1))
  tested false false false (Ok k) s true b₇ t u b₁₀ e = let f : x ≡ ListingSlices = cc in rw f (omega arith)
  tested false false false (Ok k) s false true t u b₁₀ e = let f : x ≡ ListingLong = cc in rw f (omega arith)
  tested false false false (Ok k) s false false (Err (Step v)) u b₁₀ e = let f : x ≡ ListingStep v = cc in rw f (omega (arith, u.row.1))
  tested false false false (Ok k) s false false (Err (TooDeep v)) u b₁₀ e = let f : x ≡ ListingDeep v = cc in rw f (omega (arith, u.row.1))
  tested false false false (Ok k) s false false (Ok l) u true e = let f : x ≡ MapShort = cc in rw f (omega arith)
  tested false false false (Ok k) s false false (Ok l) u false e = let z : ◌≡◌ {A = ℕ} 0 1 = cc in absurd (omega arith)

  pub table_place : (rl tl m : List ℕ) → include_check rd rl td tl m ≡ Err x
      → refusal_place x ≤ length rd + length td
  unfolding recipe_check listing_check
  table_place rl tl m e =
      let recipe = (first_bad_iff rd (first_bad rd)).0 refl in
      let listing = (first_bad_iff td (first_bad td)).0 refl in
      tested (not (eqb (length rd) (length rl))) (eqb (length rd) 0) (ltb recipe_rows (length rd)) (first_bad rd) recipe
      (not (eqb (length td) (length tl))) (ltb listing_rows (length td)) (first_bad td) listing (ltb (length m) (length rd)) e

read_small : (x : parcel.Refusal) → number_of x < 100
read_small x = grind arith

table_small : (x : table.Refusal) → refusal_number x < 100
table_small x = grind arith

-- no number of refusal has three digits
pub said_small : (x : Refusal) → said_number x < 100
said_small (Parcel x) = read_small x
said_small (BytesAfter place) = omega arith
said_small (Tables x) = table_small x
