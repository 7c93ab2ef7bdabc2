-- The left-most leaf of a row: that of the next row if it is deeper, else the row itself. Assumes nothing.
use mathlib.Core.Path.{◌≡◌, ap}
use mathlib.Core.Bool.{Bool, true, false}
use mathlib.Core.List.{List, [], ◌∷◌}
use Prim.Native.Nat.{ℕ, zero, suc, ◌+◌, ◌-◌, ◌≤◌, ◌<◌}
use native.Mathlib.Numerals.{add-one}
use native.Mathlib.Omega.{arith}
use native.Mathlib.Decide.{dec_lt, ℕ_discrete}
use lib.Dec.{eqb}
use lib.ListN.{length, get_or, drop, length-drop, drop_of_length-le}
use lib.Seq.{drop-cons, get_or-drop}
use borrow.Author.Tests.{eq-eqb, ne_eqb}
use Rattle.rows.specs.Rows.{depth, Outline}
use Rattle.rows.proofs.AtLaws.{at_none}
use Rattle.matching.specs.Family.{descent, left_leaf}

-- the descent from index i on: a row of depth d goes on, any other ends it, and so does the table's end
module _ (ds : List ℕ) (d i : ℕ) where
  pub descent_on : i < length ds → get_or ds i 0 ≡ d → descent d (drop i ds) ≡ suc (descent (suc d) (drop (suc i) ds))
  descent_on h e = rw (drop-cons ds i 0 h, eq-eqb (get_or ds i 0) d e, descent)

  descent_off : (get_or ds i 0 ≡ d → ⊥) → descent d (drop i ds) ≡ 0
  descent_off n = go (dec_lt i (length ds))
    where
      go : Dec (i < length ds) → descent d (drop i ds) ≡ 0
      go (yes h) = rw (drop-cons ds i 0 h, ne_eqb (get_or ds i 0) d n, descent)
      go (no h) = let o : length ds ≤ i = omega arith in rw (drop_of_length-le ds o)

module _ (ds : List ℕ) where
  -- a row below depth 0 is there
  pub deep_within : (d u : ℕ) → d < depth ds u → u ≤ length ds
  deep_within d u h = go (dec_lt (length ds) u)
    where
      go : Dec (length ds < u) → u ≤ length ds
      go (yes l) = absurd (omega (arith, at_none ds u l))
      go (no l) = omega arith

  pub leaf_next : Outline ds → (v : ℕ) → 1 ≤ v → depth ds v < depth ds (v + 1) → left_leaf ds v ≡ left_leaf ds (v + 1)
  leaf_next k v a h = simp add-one (go v a (simp add-one at h))
    where
      go : (v : ℕ) → 1 ≤ v → depth ds v < depth ds (suc v) → left_leaf ds v ≡ left_leaf ds (suc v)
      go zero a h = absurd (omega arith)
      go (suc i) a h =
          let l : suc i < length ds = deep_within (depth ds (suc i)) (suc (suc i)) h in
          let e : depth ds (suc (suc i)) ≡ suc (depth ds (suc i)) = omega (arith, k.step (suc i) (omega arith) (omega arith)) in
          let q = descent_on ds (suc (depth ds (suc i))) (suc i) l e in
          rw e (omega arith)

  pub leaf_self : (v : ℕ) → depth ds (v + 1) ≤ depth ds v → left_leaf ds v ≡ v
  leaf_self v h = go v (simp add-one at h)
    where
      go : (v : ℕ) → depth ds (suc v) ≤ depth ds v → left_leaf ds v ≡ v
      go zero l = omega arith
      go (suc i) l = omega (arith, descent_off ds (suc (depth ds (suc i))) (suc i) (λ e. omega arith))

-- the left-most leaf is a row
pub descent_fits : (d : ℕ) (es : List ℕ) → descent d es ≤ length es
descent_fits d [] = omega arith
descent_fits d (e ∷ es) = go (eqb e d) (descent_fits (suc d) es)
  where
    go : (b : Bool) → descent (suc d) es ≤ length es → elim b [ true ↦ suc (descent (suc d) es) | false ↦ 0 ] ≤ suc (length es)
    go true h = omega arith
    go false h = omega arith

pub leaf_within : (ds : List ℕ) (v : ℕ) → v ≤ length ds → left_leaf ds v ≤ length ds
leaf_within ds zero h = omega arith
leaf_within ds (suc i) h = omega (arith, descent_fits (suc (depth ds (suc i))) (drop (suc i) ds), length-drop (suc i) ds)

-- where it is another row, it is deeper
descent_deep : (d : ℕ) (es : List ℕ) (n : ℕ) → n < descent d es → get_or es n 0 ≡ d + n
descent_deep d [] n h = absurd (omega arith)
descent_deep d (e ∷ es) n h = go (ℕ_discrete e d) n h (descent_deep (suc d) es)
  where
    go : Dec (e ≡ d) → (n : ℕ) → n < descent d (e ∷ es) → ((n : ℕ) → n < descent (suc d) es → get_or es n 0 ≡ suc d + n) → get_or (e ∷ es) n 0 ≡ d + n
    go (yes q) zero h ih = omega arith
    go (yes q) (suc n) h ih =
        let o : suc n < suc (descent (suc d) es) = rw (eq-eqb e d q, descent) at h in omega (arith, ih n (omega arith))
    go (no q) n h ih = let o : n < 0 = rw (ne_eqb e d q, descent) at h in absurd (omega arith)

pub leaf_deep : (ds : List ℕ) (v : ℕ) → v < left_leaf ds v → depth ds v < depth ds (left_leaf ds v)
leaf_deep ds zero h = absurd (omega arith)
leaf_deep ds (suc i) h =
    let n = descent (suc (depth ds (suc i))) (drop (suc i) ds) in
    let e : suc i + n ≡ suc (suc i + (n - 1)) = omega arith in
    let q = descent_deep (suc (depth ds (suc i))) (drop (suc i) ds) (n - 1) (omega arith) in
    omega (arith, q, ap (depth ds) e, get_or-drop (suc i) ds (n - 1) 0)
