-- A run of rows that are deeper than d: its first row, its length, and the row behind it. Assumes nothing.
use mathlib.Core.Path.{◌≡◌, refl}
use mathlib.Core.List.{List, [], ◌∷◌}
use mathlib.Core.Logic.{◌⊎◌, inl, inr}
use Prim.Native.Nat.{ℕ, suc, ◌≤◌, ◌<◌}
use native.Mathlib.Omega.{arith}
use native.Mathlib.Decide.{dec_lt}
use lib.Dec.{ltb}
use lib.ListN.{length, get_or, get_or-eq_default}
use Rattle.std.specs.List.{prefix_len}
use Rattle.std.proofs.lemmas.Bool.{lt-ltb, le-ltb, ltb-true, ltb-false, cases_lt}
use Rattle.std.proofs.lemmas.List.Sums.{prefix_len-le-length, prefix_len_passes, prefix_len_stops}
use Rattle.rows.specs.Rows.{deeper}

pub deeper_lt : (d e : ℕ) (es : List ℕ) → d < e → deeper d (e ∷ es) ≡ suc (deeper d es)
deeper_lt d e es h = rw (lt-ltb d e h, deeper)

pub deeper_ge : (d e : ℕ) (es : List ℕ) → e ≤ d → deeper d (e ∷ es) ≡ 0
deeper_ge d e es h = rw (le-ltb d e h, deeper)

-- the library's word for it: the front of the list that passes a test
pub deeper_is : (d : ℕ) (es : List ℕ) → deeper d es ≡ prefix_len (ltb d) es
deeper_is d [] = refl
deeper_is d (e ∷ es) = go (dec_lt d e) (deeper_is d es)
  where
    go : Dec (d < e) → deeper d es ≡ prefix_len (ltb d) es → deeper d (e ∷ es) ≡ prefix_len (ltb d) (e ∷ es)
    go (yes h) ih = rw (lt-ltb d e h) (omega (arith, deeper_lt d e es h))
    go (no h) ih = let k : e ≤ d = omega arith in rw (le-ltb d e k) (deeper_ge d e es k)

-- the run is within the list, each row of it is deeper, and the row behind it is not
module _ (d : ℕ) (es : List ℕ) where
  pub deeper_fits : deeper d es ≤ length es
  deeper_fits = rw (deeper_is d es) (prefix_len-le-length (ltb d) es)

  pub deeper_run : (n : ℕ) → n < deeper d es → d < get_or es n 0
  deeper_run n h = ltb-true d _ (prefix_len_passes (ltb d) es n 0 (rw (deeper_is d es) at h))

  pub deeper_stop : get_or es (deeper d es) 0 ≤ d
  deeper_stop = go (cases_lt (deeper d es) (length es))
    where
      go : (deeper d es < length es) ⊎ (length es ≤ deeper d es) → get_or es (deeper d es) 0 ≤ d
      go (inl h) = rw (deeper_is d es) (ltb-false d _ (prefix_len_stops (ltb d) es 0 (rw (deeper_is d es) at h)))
      go (inr h) = rw (get_or-eq_default es 0 h) (omega arith)
