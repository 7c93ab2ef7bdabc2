-- Each table has one parcel: an accepted stretch of bytes is the parcel of the rows it gives, so two that give the same rows are
-- the same bytes, of length 20 + 6n. Assumes nothing.
use Rattle.std.proofs.Common.{◌≡◌, ℕ, zero, suc, ◌+◌, ◌-◌, ◌*◌, ◌/◌, ◌%◌, ◌≤◌, Bool, true, false, ◌&&◌, eqb, List, [], ◌∷◌, ◌++◌, length, take, drop, sym, refl, ap, ◌∙◌, ap₂, append-nil, mul-zero, mul-suc, arith, length-drop, length-take-le, drop-drop, take-add, eqb-true}
use Rattle.parcels.specs.Numbers.{le, number, fields, numbers}
use Rattle.parcels.specs.Sums.{none, added_all}
use Rattle.parcels.specs.Table.{Below, Bytes}
use Rattle.parcels.specs.Parcel.{words, section, both, parcel_of}
use Rattle.parcels.specs.Read.{given, after, sums_at, labels_in, depths_in, sums_agree, read_of}
use Rattle.parcels.specs.declared.Limit.{Limit}
use Rattle.parcels.proofs.LittleEndian.{numbers_length}
use Rattle.parcels.proofs.Accepting.{Accepted, accepted}

-- the bytes from a place on are bytes
below_drop : (b k : ℕ) (xs : List ℕ) → Below b xs → Below b (drop k xs)
below_drop b zero xs h = h
below_drop b (suc k) [] h = h
below_drop b (suc k) (x ∷ xs) h = below_drop b k xs h.1

-- a number of w bytes is put as the bytes that it was read from
number_there : (w : ℕ) (bytes : List ℕ) → Bytes bytes → w ≤ length bytes → le w (number w bytes) ≡ take w bytes
unfolding le number
number_there zero bytes h l = refl
number_there (suc w) [] h l = absurd (omega arith)
number_there (suc w) (b ∷ bytes) h l =
    let r : (b + 256 * number w bytes) % 256 ≡ b = omega arith in
    let q : (b + 256 * number w bytes) / 256 ≡ number w bytes = omega arith in
    rw (r, q) (ap (λ (s : List ℕ). b ∷ s) (number_there w bytes h.1 (omega arith)))

-- so is a run of numbers
numbers_there : (w n : ℕ) (bytes : List ℕ) → Bytes bytes → w * n ≤ length bytes → fields w (numbers w n bytes) ≡ take (w * n) bytes
unfolding fields numbers
numbers_there w zero bytes h l = rw mul-zero
numbers_there w (suc n) bytes h l =
    let m : w * suc n ≡ w + w * n = omega (arith, mul-suc w n) in
    let a = number_there w bytes h (omega arith) in
    let b = numbers_there w n (drop w bytes) (below_drop 256 w bytes h) (omega (arith, length-drop w bytes)) in
    rw (a, b, m) (sym (take-add w (w * n) bytes))

-- and a section that stands whole at a place
section_there : (bytes : List ℕ) (at w n : ℕ) → Bytes bytes → number 4 (drop at bytes) ≡ n → after at w n ≤ length bytes
    → section w (numbers w n (drop (at + 4) bytes)) ≡ take (4 + w * n) (drop at bytes)
unfolding section
section_there bytes at w n h e l =
    let a = number_there 4 (drop at bytes) (below_drop 256 at bytes h) (omega (arith, length-drop at bytes)) in
    let b = numbers_there w n (drop (at + 4) bytes) (below_drop 256 (at + 4) bytes h) (omega (arith, length-drop (at + 4) bytes)) in
    rw (numbers_length w n (drop (at + 4) bytes), rw e at a, b, ← drop-drop 4 at bytes) (sym (take-add 4 (w * n) (drop at bytes)))

both_true : (a b : Bool) → a && b ≡ true → (a ≡ true) × (b ≡ true)
both_true true b e = (refl, e)
both_true false b e = let z : ◌≡◌ {A = ℕ} 0 1 = cc in absurd (omega arith)

-- sums that agree are those that stand in the input
sums_there : (bytes : List ℕ) (start n : ℕ) → sums_agree bytes start n ≡ true
    → numbers 4 2 (drop (sums_at start n) bytes) ≡ both (added_all none (words n (labels_in bytes start n) (depths_in bytes start n)))
unfolding sums_agree numbers
sums_there bytes start n e =
    let sums = added_all none (words n (labels_in bytes start n) (depths_in bytes start n)) in
    let first = number 4 (drop (sums_at start n) bytes) in
    let second = number 4 (drop (sums_at start n + 4) bytes) in
    let t = both_true (eqb first sums.first) (eqb second sums.second) e in
    let a : first ≡ sums.first = eqb-true _ _ t.0 in
    let b : second ≡ sums.second = eqb-true _ _ t.1 in
    rw (a, drop-drop 4 (sums_at start n) bytes, b)

-- an accepted reading: the input, the place to start, the limit, the lent row slices, and the answer
pub record Reading : Type 0 where
  pub bytes : List ℕ
  pub start : ℕ
  pub limit : Limit
  pub depth_slots : List ℕ
  pub label_slots : List ℕ
  pub count : ℕ
  pub next : ℕ
  pub input : Bytes bytes
  pub answer : read_of bytes start limit depth_slots label_slots ≡ given count next

module _ (r : Reading) where
  -- the rows that it gives
  abbrev pub depths : List ℕ
  depths = depths_in r.bytes r.start r.count

  abbrev pub labels : List ℕ
  labels = labels_in r.bytes r.start r.count

  -- the bytes from its start to the place after the parcel
  abbrev pub stretch : List ℕ
  stretch = take (r.next - r.start) (drop r.start r.bytes)

  facts : Accepted r.bytes r.start r.limit r.depth_slots r.label_slots r.count r.next
  facts = accepted r.bytes r.start r.limit r.depth_slots r.label_slots r.count r.next r.answer

  -- they are 20 + 6n
  pub stretch_length : length stretch ≡ 20 + 6 * r.count
  stretch_length =
      let c = facts.claimed in
      length-take-le (r.next - r.start) (drop r.start r.bytes) (omega (arith, length-drop r.start r.bytes)) ∙ omega arith

  -- and are the parcel of the rows
  pub stretch_parcel : stretch ≡ parcel_of depths labels
  unfolding parcel_of
  stretch_parcel =
      let n = r.count in
      let first = r.start in
      let second = after first 4 n in
      let third = after second 2 n in
      let c = facts.claimed in
      let one = section_there r.bytes first 4 n r.input c.first (omega arith) in
      let two = section_there r.bytes second 2 n r.input c.second (omega arith) in
      let three = section_there r.bytes third 4 2 r.input c.third (omega arith) in
      let sums = sums_there r.bytes first n facts.agree in
      let m : r.next - first ≡ 4 + 4 * n + (4 + 2 * n + 12) = omega arith in
      let p : first + (4 + 4 * n) ≡ second = omega arith in
      let q : second + (4 + 2 * n) ≡ third = omega arith in
      rw (numbers_length 4 n (drop (first + 4) r.bytes), ← sums, append-nil (section 4 (numbers 4 2 (drop (third + 4) r.bytes))), one, two, three, m)
      (take-add (4 + 4 * n) (4 + 2 * n + 12) (drop first r.bytes)
      ∙ rw (drop-drop (4 + 4 * n) first r.bytes, p) (ap (λ (s : List ℕ). take (4 + 4 * n) (drop first r.bytes) ++ s)
      (take-add (4 + 2 * n) 12 (drop second r.bytes) ∙ rw (drop-drop (4 + 2 * n) second r.bytes, q) refl)))

-- each table has one parcel: two accepted stretches of bytes that give the same rows are the same bytes
pub one_parcel : (r s : Reading) → depths r ≡ depths s → labels r ≡ labels s → stretch r ≡ stretch s
one_parcel r s d l = stretch_parcel r ∙ ap₂ parcel_of d l ∙ sym (stretch_parcel s)
