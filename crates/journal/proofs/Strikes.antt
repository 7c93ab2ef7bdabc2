-- A strike leaves a well-formed table, one row shorter. Assumes nothing.
use mathlib.Core.Path.{◌≡◌, refl, ap}
use mathlib.Core.List.{List, [], ◌∷◌}
use Prim.Native.Nat.{ℕ, zero, suc, ◌+◌, ◌-◌, ◌≤◌, ◌<◌}
use native.Mathlib.Omega.{arith}
use native.Mathlib.Decide.{dec_lt}
use lib.ListN.{length}
use Rattle.rows.specs.Rows.{Row, deeper, WellFormed}
use Rattle.rows.proofs.Deeper.{deeper_lt, deeper_ge}
use Rattle.journal.specs.Strike.{lower, strike_depths, without}
use Rattle.journal.specs.Session.{replay, left, Named}
use Rattle.journal.proofs.Shifts.{length_first}
use Rattle.journal.proofs.Good.{Good, well_good, good_well}

pub length_strike : (ds : List ℕ) (r : ℕ) → Row ds r → suc (length (strike_depths ds r)) ≡ length ds
length_strike ds zero h = absurd (omega arith)
length_strike ds (suc i) h = go ds i h.1
  where
    go : (ds : List ℕ) (i : ℕ) → i < length ds → suc (length (strike_depths ds (suc i))) ≡ length ds
    go [] i h = absurd (omega arith)
    go (d ∷ ds) zero h = ap suc (length_first (λ d. d - 1) (deeper d ds) ds)
    go (d ∷ ds) (suc i) h = ap suc (go ds i (omega arith))

pub length_without : {A : Type 0} (xs : List A) (r : ℕ) → 1 ≤ r → r ≤ length xs → suc (length (without xs r)) ≡ length xs
length_without xs zero a h = absurd (omega arith)
length_without xs (suc i) a h = go xs i h
  where
    go : {A : Type 0} (xs : List A) (i : ℕ) → i < length xs → suc (length (without xs (suc i))) ≡ length xs
    go [] i h = absurd (omega arith)
    go (x ∷ xs) zero h = refl
    go (x ∷ xs) (suc i) h = ap suc (go xs i (omega arith))

-- the descendants of a row may sink under the row above it
good_lower : (m d : ℕ) (ds : List ℕ) → d ≤ m → Good (suc m) ds → Good m (lower (deeper d ds) ds)
good_lower m d [] l g = tt
good_lower m d (e ∷ ds) l g = go (dec_lt d e) (good_lower e d ds)
  where
    go : Dec (d < e) → (d ≤ e → Good (suc e) ds → Good e (lower (deeper d ds) ds)) → Good m (lower (deeper d (e ∷ ds)) (e ∷ ds))
    go (yes u) ih = let z : suc (e - 1) ≡ e = omega arith in rw (deeper_lt d e ds u) (omega arith, omega (arith, g.1), rw z (ih (omega arith) g.2))
    go (no u) ih = rw (deeper_ge d e ds (omega arith)) (omega arith, g.1, g.2)

good_most : (m n : ℕ) (ds : List ℕ) → m ≤ n → Good m ds → Good n ds
good_most m n [] l g = tt
good_most m n (d ∷ ds) l g = (omega arith, g.1, g.2)

good_strike : (m : ℕ) (ds : List ℕ) (i : ℕ) → i < length ds → Good m ds → Good m (strike_depths ds (suc i))
good_strike m [] i h g = absurd (omega arith)
good_strike m (d ∷ ds) zero h g = good_most d m (lower (deeper d ds) ds) g.0 (good_lower d d ds (omega arith) g.2)
good_strike m (d ∷ ds) (suc i) h g = (g.0, g.1, good_strike (suc d) ds i (omega arith) g.2)

pub well_strike : (ds : List ℕ) (r : ℕ) → Row ds r → WellFormed ds → WellFormed (strike_depths ds r)
well_strike ds zero h w = absurd (omega arith)
well_strike ds (suc i) h w = good_well _ (good_strike 0 ds i h.1 (well_good ds w))

-- a series of strikes
pub length_left : {A : Type 0} (xs : List A) (st : List ℕ) → Named (length xs) st → length (left xs st) + length st ≡ length xs
length_left xs [] v = omega arith
length_left xs (r ∷ st) v =
    let n = length_left xs st v.2 in omega (arith, v.0, v.1, length_without (left xs st) r v.0 (omega (arith, v.1)))

pub length_replay : (ds st : List ℕ) → Named (length ds) st → length (replay ds st) + length st ≡ length ds
length_replay ds [] v = omega arith
length_replay ds (r ∷ st) v =
    let n = length_replay ds st v.2 in omega (arith, v.0, v.1, length_strike (replay ds st) r (v.0, omega (arith, v.1)))

pub there : (ds : List ℕ) (r : ℕ) (st : List ℕ) → Named (length ds) (r ∷ st) → Row (replay ds st) r
there ds r st v = (v.0, omega (arith, v.1, length_replay ds st v.2))

pub well_replay : (ds st : List ℕ) → Named (length ds) st → WellFormed ds → WellFormed (replay ds st)
well_replay ds [] v w = w
well_replay ds (r ∷ st) v w = well_strike (replay ds st) r (there ds r st v) (well_replay ds st v.2 w)
