-- Numbers in bytes: what two bytes make, and four, read and written. Assumes nothing.
use Rattle.std.proofs.Common.{◌≡◌, ℕ, zero, suc, ◌+◌, ◌-◌, ◌*◌, ◌<◌, ◌≤◌, List, [], ◌∷◌, ◌++◌, length, get_or, take, drop, set, sym, refl, ap, ◌∙◌, append_assoc, mul-zero, mul-suc, add-one, arith, drop-cons, drop-drop}
use native.Mathlib.Nat.{div-div-eq-div-mul}
use borrow.Rule.Slice.PartMut.{put_mid}
use lib.Seq.{sets, sets-eq}
use Rattle.std.specs.Int.{w16, w32, to_le_bytes}
use Rattle.parcels.specs.Numbers.{le, number, numbers}

-- two bytes
pub number_two : (bytes : List ℕ) (at : ℕ) → at + 2 ≤ length bytes → number 2 (drop at bytes) ≡ get_or bytes at 0 + 256 * get_or bytes (at + 1) 0
unfolding number
number_two bytes at h =
    let h' : suc at < length bytes = omega arith in
    rw (drop-cons bytes at 0 (omega arith), drop-cons bytes (suc at) 0 h', add-one at) (omega arith)

-- four bytes
pub number_four : (bytes : List ℕ) (at : ℕ) → at + 4 ≤ length bytes → number 4 (drop at bytes)
    ≡ get_or bytes at 0 + get_or bytes (at + 1) 0 * 256 + get_or bytes (at + 2) 0 * 65536 + get_or bytes (at + 3) 0 * 16777216
unfolding number
number_four bytes at h =
    let one : suc at < length bytes = omega arith in
    let two : suc (suc at) < length bytes = omega arith in
    let three : suc (suc (suc at)) < length bytes = omega arith in
    let e : at + 2 ≡ suc (suc at) = omega arith in
    let f : at + 3 ≡ suc (suc (suc at)) = omega arith in
    rw (
      drop-cons bytes at 0 (omega arith),
      drop-cons bytes (suc at) 0 one,
      drop-cons bytes (suc (suc at)) 0 two,
      drop-cons bytes (suc (suc (suc at))) 0 three,
      add-one at,
      e,
      f,
    )
    (omega arith)

-- a run of stores in two parts
pub sets_append : (xs ys l : List ℕ) (i : ℕ) → sets l i (xs ++ ys) ≡ sets (sets l i xs) (i + length xs) ys
sets_append [] ys l i = let e : i + 0 ≡ i = omega arith in rw e
sets_append (x ∷ xs) ys l i = let e : i + suc (length xs) ≡ suc i + length xs = omega arith in rw e (sets_append xs ys (set l i x) (suc i))

-- the library's bytes of a number are these
pub le_two : (x : ℕ) → to_le_bytes w16 x ≡ le 2 x
unfolding le
le_two x = refl

pub le_four : (x : ℕ) → to_le_bytes w32 x ≡ le 4 x
unfolding le
le_four x = rw (div-div-eq-div-mul x 256 256, div-div-eq-div-mul x 65536 256)

-- a run of bytes copied over a part of as many
pub copied : (bytes : List ℕ) (at w : ℕ) (part xs : List ℕ) → at + w ≤ length bytes → part ≡ xs → length xs ≡ w
    → put_mid at (at + w - at) bytes part ≡ sets bytes at xs
copied bytes at w part xs h e l =
    let k : at + w - at ≡ w = omega arith in
    let d : drop w (drop at bytes) ≡ drop (at + length xs) bytes = drop-drop w at bytes ∙ ap (λ (n : ℕ). drop n bytes) (omega arith) in
    rw (e, k, d) (sym (append_assoc (take at bytes) xs (drop (at + length xs) bytes)) ∙ sym (sets-eq xs bytes at (omega arith)))

-- how many numbers there are
pub numbers_length : (w n : ℕ) (bytes : List ℕ) → length (numbers w n bytes) ≡ n
unfolding numbers
numbers_length w zero bytes = refl
numbers_length w (suc n) bytes = ap suc (numbers_length w n (drop w bytes))

nth : (w n i : ℕ) (bytes : List ℕ) → i < n → get_or (numbers w n bytes) i 0 ≡ number w (drop (w * i) bytes)
unfolding numbers
nth w zero i bytes h = absurd (omega arith)
nth w (suc n) zero bytes h = rw mul-zero
nth w (suc n) (suc i) bytes h =
    let e : w + w * i ≡ w * suc i = omega (arith, mul-suc w i) in
    nth w n i (drop w bytes) (omega arith) ∙ ap (number w) (drop-drop (w * i) w bytes ∙ ap (λ (k : ℕ). drop k bytes) e)

-- each of the numbers, from the place where the first stands
pub numbers_at : (w n i : ℕ) (bytes : List ℕ) (at : ℕ) → i < n → get_or (numbers w n (drop at bytes)) i 0 ≡ number w (drop (at + w * i) bytes)
numbers_at w n i bytes at h = nth w n i (drop at bytes) h ∙ ap (number w) (drop-drop (w * i) at bytes)
