-- Tests and what they say. Assumes nothing.
use mathlib.Core.Path.{◌≡◌, refl, sym, ap, ap₂, ◌∙◌}
use mathlib.Core.Bool.{Bool, true, false, ◌&&◌}
use mathlib.Core.Logic.{◌↔◌}
use mathlib.Core.List.{List}
use Prim.Native.Nat.{ℕ, zero, suc, ◌+◌, ◌≤◌, ◌<◌}
use native.Mathlib.Omega.{arith}
use lib.Dec.{leb, ltb}
use Rattle.std.proofs.lemmas.Bool.{and_parts, and_from}
use Rattle.std.proofs.lemmas.Bool.Decides.{nat_tests}
use Rattle.rows.specs.Rows.{closing, Ancestor, LeftOf, is_ancestor, is_left_of, counted, tally}

pub both_true : (p q : Bool) → ((p && q) ≡ true) ↔ ((p ≡ true) × (q ≡ true))
both_true p q = (and_parts p q, λ e. and_from p q e.0 e.1)

pub same_test : (p q : Bool) → (p ≡ true → q ≡ true) → (q ≡ true → p ≡ true) → p ≡ q
same_test true true f g = refl
same_test true false f g = sym (f refl)
same_test false true f g = g refl
same_test false false f g = refl

order_test : (u w x y : ℕ) → ((leb 1 u && (ltb u w && ltb x y)) ≡ true) ↔ ((1 ≤ u) × (u < w) × (x < y))
order_test u w x y = (λ e. grind (arith, nat_tests), λ a. grind (arith, nat_tests))

pub ancestor_test : (ds : List ℕ) (u w : ℕ) → (is_ancestor ds u w ≡ true) ↔ Ancestor ds u w
ancestor_test ds u w = order_test u w (closing ds w) (closing ds u)

pub left_test : (ds : List ℕ) (u w : ℕ) → (is_left_of ds u w ≡ true) ↔ LeftOf ds u w
left_test ds u w = order_test u w (closing ds u) (closing ds w)

-- tallies: the branches, tests that agree, and rows that all fail
pub tally_true : (p : ℕ → Bool) (n : ℕ) → p (suc n) ≡ true → tally p (suc n) ≡ suc (tally p n)
tally_true p n e = ap (λ (b : Bool). counted b (tally p n)) e

pub tally_false : (p : ℕ → Bool) (n : ℕ) → p (suc n) ≡ false → tally p (suc n) ≡ tally p n
tally_false p n e = ap (λ (b : Bool). counted b (tally p n)) e

pub tally_same : (p q : ℕ → Bool) (n : ℕ) → ((u : ℕ) → 1 ≤ u → u ≤ n → p u ≡ q u) → tally p n ≡ tally q n
tally_same p q zero h = refl
tally_same p q (suc n) h = ap₂ counted (h (suc n) (omega arith) (omega arith)) (tally_same p q n (λ u a b. h u a (omega arith)))

pub tally_none : (p : ℕ → Bool) (n m : ℕ) → ((u : ℕ) → n < u → u ≤ n + m → p u ≡ false) → tally p (n + m) ≡ tally p n
tally_none p n zero h = let e : n + 0 ≡ n = omega arith in rw e
tally_none p n (suc m) h =
    let e : n + suc m ≡ suc (n + m) = omega arith in
    rw e (tally_false p (n + m) (h (suc (n + m)) (omega arith) (omega arith)) ∙ tally_none p n m (λ u a b. h u a (omega arith)))
