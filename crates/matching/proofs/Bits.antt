-- Bits that are set in a number by `or`, and asked for by `and`. Assumes nothing.
use Prim.Native.Nat.{ℕ, ◌/◌, ◌≤◌, zero-le}
use native.Mathlib.Omega.{arith}
use lib.Arith.{bin_ind}
use lib.Bits.{bit_and, bit_or, and_step, or_step, or_shr, or_comm, and_self}

-- what is set takes nothing away,
pub and_grows : (a b c : ℕ) → bit_and a c ≤ bit_and (bit_or a b) c
and_grows =
    bin_ind (λ (n : ℕ). (b c : ℕ) → bit_and n c ≤ bit_and (bit_or n b) c) (λ b c. zero-le)
    (λ n ih b c. omega (arith, and_step n c, rw (or_shr n b 1) at (and_step (bit_or n b) c), or_step n b, ih (b / 2) (c / 2)))

-- and is there
pub and_set : (a b : ℕ) → b ≤ bit_and (bit_or a b) b
and_set a b = omega (arith, rw (or_comm b a) at (and_grows b a b), and_self b)
