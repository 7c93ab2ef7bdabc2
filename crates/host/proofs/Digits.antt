-- Decimal digits: a number below ten is its one digit, any other has the digits of its tenth and then its last; how many there are.
-- Assumes nothing.
use mathlib.Core.Path.{◌≡◌, refl, sym, ap, ◌∙◌}
use mathlib.Core.List.{List, [], ◌∷◌, ◌++◌}
use Prim.Native.Nat.{ℕ, zero, suc, ◌+◌, ◌-◌, ◌*◌, ◌/◌, ◌%◌, ◌^◌, ◌<◌, ◌≤◌}
use native.Mathlib.Nat.{pow-suc}
use native.Mathlib.Decide.{dec_lt}
use native.Mathlib.Omega.{arith}
use lib.ListN.{length, get_or, length-append, get_or-append}
use borrow.Author.Tests.{lt-ltb, le-ltb}
use Rattle.host.specs.Line.{digit, space, digits_in, digits, spaced}

below_ten : (k n : ℕ) → n < 10 → digits_in k n ≡ digit n ∷ []
below_ten zero n h = refl
below_ten (suc k) n h = rw (lt-ltb n 10 h, digits_in)

from_ten : (k n : ℕ) → 10 ≤ n → digits_in (suc k) n ≡ digits_in k (n / 10) ++ (digit (n % 10) ∷ [])
from_ten k n h = rw (le-ltb n 10 h, digits_in)

-- as many divisions as the number says are enough
enough : (k j n : ℕ) → n ≤ k → n ≤ j → digits_in k n ≡ digits_in j n
enough zero j n h l = sym (below_ten j n (omega arith))
enough (suc k) zero n h l = below_ten (suc k) n (omega arith)
enough (suc k) (suc j) n h l = go (dec_lt n 10) (enough k j (n / 10))
  where
    go : Dec (n < 10) → (n / 10 ≤ k → n / 10 ≤ j → digits_in k (n / 10) ≡ digits_in j (n / 10)) → digits_in (suc k) n ≡ digits_in (suc j) n
    go (yes s) r = rw (below_ten (suc k) n s, below_ten (suc j) n s)
    go (no s) r = rw (from_ten k n (omega arith), from_ten j n (omega arith), r (omega arith) (omega arith))

pub digits_small : (n : ℕ) → n < 10 → digits n ≡ digit n ∷ []
unfolding digits
digits_small n h = below_ten n n h

pub digits_large : (n : ℕ) → 10 ≤ n → digits n ≡ digits (n / 10) ++ (digit (n % 10) ∷ [])
unfolding digits
digits_large zero h = absurd (omega arith)
digits_large (suc m) h = rw (from_ten m (suc m) h, enough m (suc m / 10) (suc m / 10) (omega arith) (omega arith))

-- one digit more than its tenth
pub digits_more : (n : ℕ) → 10 ≤ n → length (digits n) ≡ length (digits (n / 10)) + 1
digits_more n h = rw (digits_large n h, length-append)

-- a number below a power of ten has at most as many digits as the power says
pub digits_width : (k n : ℕ) → n < 10 ^ suc k → length (digits n) ≤ suc k
digits_width zero n h = let e = digits_small n (omega arith) in omega (arith, ap length e)
digits_width (suc k) n h = go (dec_lt n 10) (digits_width k (n / 10))
  where
    go : Dec (n < 10) → (n / 10 < 10 ^ suc k → length (digits (n / 10)) ≤ suc k) → length (digits n) ≤ suc (suc k)
    go (yes s) r = let e = digits_small n s in omega (arith, ap length e)
    go (no s) r = let p = pow-suc 10 (suc k) in let t = r (omega arith) in omega (arith, digits_more n (omega arith))

-- numbers of at most four digits, each after a space
pub spaced_width : (ns : List ℕ) → ((i : ℕ) → i < length ns → get_or ns i 0 < 10000) → length (spaced ns) ≤ 5 * length ns
unfolding spaced
spaced_width [] h = omega arith
spaced_width (n ∷ ns) h =
    let d = digits_width 3 n (h 0 (omega arith)) in
    let r = spaced_width ns (λ i k. h (suc i) (omega arith)) in
    omega (arith, length-append (space ∷ digits n) (spaced ns))

-- the number that decimal digits make, behind those that made v
abbrev pub made : ℕ → List ℕ → ℕ
made v [] = v
made v (d ∷ ds) = made (10 * v + (d - 48)) ds

made_append : (v : ℕ) (xs ys : List ℕ) → made v (xs ++ ys) ≡ made (made v xs) ys
made_append v [] ys = refl
made_append v (x ∷ xs) ys = made_append (10 * v + (x - 48)) xs ys

-- what the digits of a number say: they make it, and they begin with a zero only where it is 0
pub record Says (n : ℕ) : Type 0 where
  pub value : made 0 (digits n) ≡ n
  pub some : 1 ≤ length (digits n)
  pub leading : get_or (digits n) 0 0 ≡ 48 → n ≡ 0

say_small : (n : ℕ) → n < 10 → Says n
say_small n h =
    let e = digits_small n h in
    record { value = rw e (omega arith); some = omega (arith, ap length e); leading = λ z. let f = rw e at z in omega arith }

say_large : (n : ℕ) → 10 ≤ n → Says (n / 10) → Says n
say_large n h s =
    let e = digits_large n h in
    let last = digit (n % 10) ∷ [] in
    let m : made 0 (digits n) ≡ 10 * made 0 (digits (n / 10)) + (digit (n % 10) - 48) = rw (e, made_append 0 (digits (n / 10)) last) in
    let f : get_or (digits n) 0 0 ≡ get_or (digits (n / 10)) 0 0 = rw e (get_or-append (digits (n / 10)) last 0 0 (omega (arith, s.some))) in
    record {
      value = omega (arith, m, s.value);
      some = omega (arith, digits_more n h);
      leading = λ z. let t = s.leading (sym f ∙ z) in omega arith;
    }

-- decimal digits without leading zeros
pub digits_say : (n : ℕ) → Says n
digits_say n = go n n (omega arith)
  where
    go : (k n : ℕ) → n ≤ k → Says n
    go zero n h = say_small n (omega arith)
    go (suc k) n h = or (dec_lt n 10) (go k (n / 10))
      where
        or : Dec (n < 10) → (n / 10 ≤ k → Says (n / 10)) → Says n
        or (yes s) r = say_small n s
        or (no s) r = say_large n (omega arith) (r (omega arith))
