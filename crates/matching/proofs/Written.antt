-- Writing the room word by word, and reading the recipe back from its shape. Assumes nothing.
use mathlib.Core.Path.{◌≡◌, sym, ap, ◌∙◌}
use mathlib.Core.Bool.{true, false}
use mathlib.Core.List.{List}
use lib.Dec.{eqb}
use Prim.Native.Nat.{ℕ, zero, suc, ◌+◌, ◌≤◌, ◌<◌, min}
use native.Mathlib.Omega.{arith}
use native.Mathlib.Decide.{dec_lt}
use lib.ListN.{length, get_or, set, length-set}
use lib.Seq.{get_or-set_same, get_or-set_other}
use borrow.Author.Tests.{eq-eqb, ne_eqb}
use Rattle.matching.specs.Shape.{word}
use Rattle.matching.specs.Asked.{noted}
use Rattle.matching.specs.Room.{room_words, Written, room_for, following}

module _ (rs : List ℕ) (base : ℕ) (value : ℕ → ℕ) where
  pub written_one : (i : ℕ) (ss : List ℕ) (v : ℕ) → base + i < length rs → Written rs base i value ss → v ≡ value i → Written rs base (suc i) value (set ss (base + i) v)
  written_one i ss v h w e =
      record {
        size = length-set ss (base + i) v ∙ w.size;
        new = λ j l. new j l (dec_lt j i);
        before = λ j l. get_or-set_other ss (base + i) j v 0 (λ q. omega arith) ∙ w.before j l;
        after = λ j l. get_or-set_other ss (base + i) j v 0 (λ q. omega arith) ∙ w.after j (omega arith);
      }
    where
      new : (j : ℕ) → j < suc i → Dec (j < i) → get_or (set ss (base + i) v) (base + j) 0 ≡ value j
      new j l (yes o) = get_or-set_other ss (base + i) (base + j) v 0 (λ q. omega arith) ∙ w.new j o
      new j l (no o) =
          let q : j ≡ i = omega arith in
          rw q (get_or-set_same ss (base + i) v 0 (omega (arith, w.size)) ∙ e)

-- a larger recipe and a larger first level need no less
room_grows : (m p q r n : ℕ) → m ≤ p → q ≤ r → room_for m q n ≤ room_for p r n
room_grows m p q r zero h l = omega arith
room_grows m p q r (suc n) h l = omega (arith, room_grows m p (min m (q + q)) (min p (r + r)) n (omega arith) (omega arith))

pub room_more : (m q p n : ℕ) → q ≤ p → room_for m q n ≤ room_for m p n
room_more m q p n h = room_grows m m q p n (omega arith) h

-- there is room for any path of a recipe of up to 228 rows, for one row of any recipe, and for 15 of any recipe behind four levels
pub room_small : (m q : ℕ) → m ≤ 228 → q ≤ m → room_for m q 64 ≤ room_words
room_small m q h l = room_grows m 228 q 228 64 h (omega arith)

pub room_one : (m q : ℕ) → m ≤ 256 → q ≤ 1 → room_for m q 64 ≤ room_words
room_one m q h l = within (room_for m q 64) (room_grows m 256 q 1 64 h l)
  where
    within : (n : ℕ) → n ≤ 14591 → n ≤ room_words
    within n o = omega arith

pub room_deep : (m q : ℕ) → m ≤ 256 → q ≤ 15 → room_for m q 60 ≤ room_words
room_deep m q h l = within (room_for m q 60) (room_grows m 256 q 15 60 h l)
  where
    within : (n : ℕ) → n ≤ 14545 → n ≤ room_words
    within n o = omega arith

-- nor do fewer levels need more
pub room_levels : (m q n p : ℕ) → n ≤ p → room_for m q n ≤ room_for m q p
room_levels m q zero p h = omega arith
room_levels m q (suc n) zero h = absurd (omega arith)
room_levels m q (suc n) (suc p) h = omega (arith, room_levels m (min m (q + q)) n p (omega arith))

pub room_fewer : (m q n p w : ℕ) → n ≤ p → room_for m q p ≤ w → room_for m q n ≤ w
room_fewer m q n p w l h = omega (arith, room_levels m q n p l)

pub room_below : (m q n p w : ℕ) → n ≤ p → room_for m q p ≤ w → 0 + room_for m q n ≤ w
room_below m q n p w l h = omega (arith, room_levels m q n p l)

-- the corner on the chain after a, where there is no such chain, and where there is
module _ (ws asked rs : List ℕ) (base a y : ℕ) (e : y ≡ word 1 ws a) where
  pub following_none : y ≡ 0 → following ws asked rs base a ≡ 0
  unfolding following
  following_none h = rw (eq-eqb (word 1 ws a) 0 (sym e ∙ h), following)

  pub following_some : (y ≡ 0 → ⊥) → following ws asked rs base a ≡ get_or rs (base + noted asked (word 1 ws a)) 0
  unfolding following
  following_some h = rw (ne_eqb (word 1 ws a) 0 (λ q. h (e ∙ q)), following)

-- what was kept behind stays
pub following_same : (ws asked rs ss : List ℕ) (base a : ℕ) → ((j : ℕ) → base ≤ j → get_or ss j 0 ≡ get_or rs j 0) → following ws asked ss base a ≡ following ws asked rs base a
unfolding following
following_same ws asked rs ss base a h =
    ap (λ (n : ℕ). elim (eqb (word 1 ws a) 0) as (λ b. ℕ) [ true ↦ 0 | false ↦ n ]) (h (base + noted asked (word 1 ws a)) (omega arith))
