-- The reader's judgement, test by test. Assumes nothing.
use Rattle.std.proofs.Common.{◌≡◌, ℕ, ◌+◌, ◌*◌, ◌<◌, ◌≤◌, true, false, List, Ok, Err, length, drop, sym, refl, ap, ◌∙◌, mul-le-mul, arith, eq-eqb, ne_eqb, le-leb}
use native.Mathlib.Decide.{dec_le}
use borrow.Author.Tests.{lt-leb}
use Rattle.parcels.specs.Numbers.{number}
use Rattle.parcels.specs.Sums.{none, added_all}
use Rattle.parcels.specs.Parcel.{words}
use Rattle.parcels.specs.Read.{after, section_of, labels_in, depths_in, sums_at, sums_agree}
use Rattle.parcels.specs.declared.sums.Sums.{Sums}
use Rattle.parcels.specs.declared.judge.Whole.{Whole}
use Rattle.parcels.specs.declared.Refusal.{Refusal}
use Rattle.parcels.specs.declared.Refusal.TheVariants.{Ended}

-- a section within the limits is small
pub small : (w n : ℕ) → w ≤ 4 → n ≤ 4096 → w * n ≤ 16384
small w n h k = mul-le-mul h k

module _ (bytes : List ℕ) (at least most width : ℕ) (miscounted : Refusal) where
  pub cut_count : length bytes < at + 4 → section_of bytes at least most width miscounted ≡ Err (Ended (length bytes))
  unfolding section_of
  cut_count h = rw (lt-leb _ _ h)

  module _ (h : at + 4 ≤ length bytes) (n : ℕ) (e : n ≡ number 4 (drop at bytes)) where
    pub counted_low : n < least → section_of bytes at least most width miscounted ≡ Err miscounted
    unfolding section_of
    counted_low l = rw (le-leb _ _ h, ← e, lt-leb _ _ l)

    pub counted_high : least ≤ n → most < n → section_of bytes at least most width miscounted ≡ Err miscounted
    unfolding section_of
    counted_high l m = rw (le-leb _ _ h, ← e, le-leb _ _ l, lt-leb _ _ m)

    pub cut_fields : least ≤ n → n ≤ most → length bytes < after at width n → section_of bytes at least most width miscounted ≡ Err (Ended (length bytes))
    unfolding section_of
    cut_fields l m f = rw (le-leb _ _ h, ← e, le-leb _ _ l, le-leb _ _ m, lt-leb _ _ f)

    pub found_whole : least ≤ n → n ≤ most → after at width n ≤ length bytes
        → section_of bytes at least most width miscounted ≡ Ok (record { count = n; next = after at width n })
    unfolding section_of
    found_whole l m f = rw (le-leb _ _ h, ← e, le-leb _ _ l, le-leb _ _ m, le-leb _ _ f)

-- what a whole section tells
pub record Found (bytes : List ℕ) (at least most width n next : ℕ) : Type 0 where
  pub value : n ≡ number 4 (drop at bytes)
  pub low : least ≤ n
  pub high : n ≤ most
  pub place : next ≡ after at width n
  pub within : next ≤ length bytes

pub found : (bytes : List ℕ) (at least most width : ℕ) (miscounted : Refusal) (n next : ℕ) →
    section_of bytes at least most width miscounted ≡ Ok (record { count = n; next = next }) → Found bytes at least most width n next
found bytes at least most width miscounted n next e =
    go (dec_le (at + 4) (length bytes)) (dec_le least c) (dec_le c most) (dec_le (after at width c) (length bytes))
  where
    c : ℕ
    c = number 4 (drop at bytes)

    no_refusal : {r : Refusal} → section_of bytes at least most width miscounted ≡ Err r → ⊥
    no_refusal f = let z : ◌≡◌ {A = ℕ} 0 1 = cc in omega arith

    go : Dec (at + 4 ≤ length bytes) → Dec (least ≤ c) → Dec (c ≤ most) → Dec (after at width c ≤ length bytes) → Found bytes at least most width n next
    go (yes h) (yes l) (yes m) (yes f) =
        let w = found_whole bytes at least most width miscounted h c refl l m f in
        let same : ◌≡◌ {A = Whole} (record { count = n; next = next }) (record { count = c; next = after at width c }) = cc in
        let v = ap (λ (s : Whole). s.count) same in
        let p = ap (λ (s : Whole). s.next) same in
        record { value = v; low = omega arith; high = omega arith; place = p ∙ ap (after at width) (sym v); within = omega arith }
    go (no h) l m f = absurd (no_refusal (cut_count bytes at least most width miscounted (omega arith)))
    go (yes h) (no l) m f = absurd (no_refusal (counted_low bytes at least most width miscounted h c refl (omega arith)))
    go (yes h) (yes l) (no m) f = absurd (no_refusal (counted_high bytes at least most width miscounted h c refl l (omega arith)))
    go (yes h) (yes l) (yes m) (no f) = absurd (no_refusal (cut_fields bytes at least most width miscounted h c refl l m (omega arith)))

-- both sums are compared with those of the words, the first first
module _ (bytes : List ℕ) (start n : ℕ) (sums : Sums) (e : sums ≡ added_all none (words n (labels_in bytes start n) (depths_in bytes start n))) where
  pub first_differs : (number 4 (drop (sums_at start n) bytes) ≡ sums.first → ⊥) → sums_agree bytes start n ≡ false
  unfolding sums_agree
  first_differs h = rw (← e, ne_eqb _ _ h)

  pub second_differs : number 4 (drop (sums_at start n) bytes) ≡ sums.first → (number 4 (drop (sums_at start n + 4) bytes) ≡ sums.second → ⊥)
      → sums_agree bytes start n ≡ false
  unfolding sums_agree
  second_differs h k = rw (← e, eq-eqb _ _ h, ne_eqb _ _ k)

  pub both_agree : number 4 (drop (sums_at start n) bytes) ≡ sums.first → number 4 (drop (sums_at start n + 4) bytes) ≡ sums.second
      → sums_agree bytes start n ≡ true
  unfolding sums_agree
  both_agree h k = rw (← e, eq-eqb _ _ h, eq-eqb _ _ k)
