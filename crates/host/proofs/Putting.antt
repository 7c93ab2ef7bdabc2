-- Bytes put one after the other. Assumes nothing.
use mathlib.Core.Path.{◌≡◌, refl, sym, ap}
use mathlib.Core.List.{List, [], ◌∷◌, ◌++◌, append_assoc, append-nil}
use Prim.Native.Nat.{ℕ, suc, ◌+◌, ◌-◌, ◌/◌, ◌%◌, ◌<◌, ◌≤◌}
use native.Mathlib.Numerals.{add-one}
use native.Mathlib.Omega.{arith}
use lib.ListN.{length, take, drop, get_or, set, take-append-drop, length-append, length-take, length-drop, drop_of_length-le}
use lib.Seq.{take-suc, drop-cons, drop-drop, set-append_seam, take_all, take_at, drop_at}
use borrow.Rule.Slice.PartMut.{put_mid}
use Rattle.host.specs.Line.{digit, space, newline, digits, spaced, line}
use Rattle.host.specs.Put.{Put}
use Rattle.host.proofs.Digits.{digits_small, digits_large, digits_more}

-- nothing is put yet
pub put_none : (a : List ℕ) → Put a [] a 0
put_none a = record { stored = refl; count = refl }

-- one byte more
pub put_byte : {a xs b : List ℕ} {i : ℕ} (v : ℕ) → Put a xs b i → length xs < length a → Put a (xs ++ (v ∷ [])) (set b i v) (i + 1)
put_byte {a} {xs} {b} {i} v p h = record { stored = go; count = rw length-append (omega (arith, p.count)) }
  where
    n : ℕ
    n = length xs

    go : set b i v ≡ (xs ++ (v ∷ [])) ++ drop (length (xs ++ (v ∷ []))) a
    go = rw (p.count, p.stored, drop-cons a n 0 h, set-append_seam xs (get_or a n 0) (drop (suc n) a) v, append_assoc, length-append, add-one)

-- a number below ten is its one digit, any other has the digits of its tenth and then its last
pub put_small : (a : List ℕ) (n : ℕ) → n < 10 → length (digits n) ≤ length a → Put a (digits n) (set a 0 (digit n)) 1
put_small a n h room = let e = digits_small n h in rw e (put_byte (digit n) (put_none a) (omega (arith, ap length e)))

pub put_large : {a b : List ℕ} {i : ℕ} (n : ℕ) → 10 ≤ n → Put a (digits (n / 10)) b i → length (digits n) ≤ length a
    → Put a (digits n) (set b i (digit (n % 10))) (i + 1)
put_large n h p room = rw (digits_large n h) (put_byte (digit (n % 10)) p (omega (arith, digits_more n h)))

-- bytes, and then those at the front of what is left
pub put_then : {a xs b ys m : List ℕ} {i j : ℕ} → Put a xs b i → Put (take (length b - i) (drop i b)) ys m j
    → Put a (xs ++ ys) (put_mid i (length b - i) b m) (i + j)
put_then {a} {xs} {b} {ys} {m} {i} {j} p q = record { stored = go; count = rw length-append (omega (arith, p.count, q.count)) }
  where
    rest : List ℕ
    rest = drop (length xs) a

    room : length b - i ≡ length rest
    room = omega (arith, ap length p.stored, length-append xs rest, p.count)

    front : take i b ≡ xs
    front = rw p.stored (take_at xs rest i (sym p.count))

    behind : drop i b ≡ rest
    behind = rw p.stored (drop_at xs rest i (sym p.count))

    all : take (length b - i) rest ≡ rest
    all = take_all (length b - i) rest (omega (arith, room))

    none : drop (length b - i) rest ≡ []
    none = drop_of_length-le rest (omega (arith, room))

    put : m ≡ ys ++ drop (length ys) rest
    put = rw (behind, all) at q.stored

    go : put_mid i (length b - i) b m ≡ (xs ++ ys) ++ drop (length (xs ++ ys)) a
    go = rw (front, behind, none, put, append-nil, drop-drop, length-append, append_assoc)

-- what is left has room for what is left
pub put_room : {a xs b : List ℕ} {i : ℕ} (k : ℕ) → Put a xs b i → length xs + k ≤ length a → k ≤ length (take (length b - i) (drop i b))
put_room {a} {xs} {b} k p h =
    simp (length-take, length-drop) (omega (arith, p.count, ap length p.stored, length-append xs (drop (length xs) a), length-drop (length xs) a))

-- the next byte's place is within the buffer
pub put_next : {a xs b : List ℕ} {i : ℕ} → Put a xs b i → length xs < length a → i < length b
put_next {a} {xs} {b} p h = omega (arith, p.count, ap length p.stored, length-append xs (drop (length xs) a), length-drop (length xs) a)

spaced_append : (ns ms : List ℕ) → spaced (ns ++ ms) ≡ spaced ns ++ spaced ms
unfolding spaced
spaced_append [] ms = refl
spaced_append (n ∷ ns) ms = rw (spaced_append ns ms, append_assoc)

-- the number behind the first i comes next
pub spaced_more : (ns : List ℕ) (i : ℕ) → i < length ns → spaced (take (i + 1) ns) ≡ spaced (take i ns) ++ (space ∷ digits (get_or ns i 0))
unfolding spaced
spaced_more ns i h = rw (add-one, take-suc ns i 0 h, spaced_append, append-nil)

-- and takes no more room than is left
pub spaced_fits : (ns : List ℕ) (i : ℕ) → i < length ns → length (spaced (take i ns)) + length (space ∷ digits (get_or ns i 0)) ≤ length (spaced ns)
spaced_fits ns i h =
    let next = space ∷ digits (get_or ns i 0) in
    let e = spaced_append (take (i + 1) ns) (drop (i + 1) ns) in
    omega (
      arith,
      ap length (rw take-append-drop at e),
      length-append (spaced (take (i + 1) ns)) (spaced (drop (i + 1) ns)),
      ap length (spaced_more ns i h),
      length-append (spaced (take i ns)) next,
    )

module _ (word : List ℕ) (first second : ℕ) (images : List ℕ) where
  -- the parts of a line
  pub line_parts : line word (first ∷ second ∷ images)
      ≡ (((word ++ (space ∷ digits first)) ++ (space ∷ digits second)) ++ spaced images) ++ (newline ∷ [])
  unfolding line spaced
  line_parts = simp append_assoc

  -- and its length
  pub line_length : length (line word (first ∷ second ∷ images))
      ≡ length word + length (space ∷ digits first) + length (space ∷ digits second) + length (spaced images) + 1
  line_length = rw line_parts (simp length-append (omega arith))
