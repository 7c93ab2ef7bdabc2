-- Number 29's test row by row, as code makes it. Assumes nothing.
use mathlib.Core.Path.{◌≡◌, refl, sym, ap, ◌∙◌}
use mathlib.Core.Bool.{Bool, true, false, ◌&&◌, ◌||◌}
use mathlib.Core.List.{List, [], ◌∷◌}
use Prim.Native.Nat.{ℕ, zero, suc, ◌+◌, ◌-◌, ◌≤◌, ◌<◌}
use native.Mathlib.Omega.{arith}
use native.Mathlib.Decide.{dec_lt}
use lib.Dec.{leb, ltb, eqb}
use lib.ListN.{length, length-take, get_or, take, drop, drop_of_length-le}
use lib.Seq.{drop-cons, get_or-take, length-take-le}
use borrow.Author.Tests.{leb-true, ltb-true, le-leb, lt-ltb, eq-eqb, ne_eqb}
use Rattle.rows.specs.Limits.{deepest}
use Rattle.rows.specs.Rows.{deeper, WellFormed}
use Rattle.rows.specs.FirstBad.{most_at}
use Rattle.rows.proofs.Deeper.{deeper_lt, deeper_ge}
use Rattle.rows.proofs.Tests.{both_true, same_test}
use Rattle.journal.specs.Strike.{raise}
use Rattle.journal.specs.Entry.{may_return, may_rise}
use Rattle.journal.proofs.Good.{Good, well_good, good_well, most_from, most_at_lem, good_behind, good_put, good_rest}
use Rattle.journal.proofs.Returns.{fits_test, descendants_undo}

-- the rows behind one that returns at depth d: once the first n have risen they are good, and just they are below it
abbrev Risen : ℕ → ℕ → ℕ → List ℕ → Type 0
Risen m d n ds = Good m (raise n ds) × (deeper d (raise n ds) ≡ n)

rise_to : (m d n x : ℕ) (ds : List ℕ) → d ≤ m → Good x ds → may_rise m d n ds ≡ true → Risen m d n ds
unfolding may_rise
rise_to m d zero x [] l g t = (tt, refl)
rise_to m d zero x (e ∷ ds) l g t = let k = leb-true e d t in ((omega arith, g.1, g.2), deeper_ge d e ds k)
rise_to m d (suc n) x [] l g t = cc
rise_to m d (suc n) x (e ∷ ds) l g t =
    let a = (both_true _ _).0 t in
    let b = (both_true _ _).0 a.1 in
    let f = (both_true _ _).0 b.1 in
    let p = leb-true d e a.0 in
    let ih = rise_to (suc (suc e)) d n (suc e) ds (omega arith) g.2 f.1 in
    ((ltb-true e m b.0, ltb-true e deepest f.0, ih.0), deeper_lt d (suc e) (raise n ds) (omega arith) ∙ ap suc ih.1)

rise_of : (m d n : ℕ) (ds : List ℕ) → Risen m d n ds → may_rise m d n ds ≡ true
unfolding may_rise
rise_of m d zero [] k = refl
rise_of m d zero (e ∷ ds) k = go (dec_lt d e)
  where
    go : Dec (d < e) → leb e d ≡ true
    go (yes h) = absurd (omega (arith, deeper_lt d e ds h, k.1))
    go (no h) = le-leb e d (omega arith)
rise_of m d (suc n) [] k = absurd (omega (arith, k.1))
rise_of m d (suc n) (e ∷ ds) k = go (dec_lt d (suc e)) (rise_of (suc (suc e)) d n ds)
  where
    go : Dec (d < suc e) → (Risen (suc (suc e)) d n ds → may_rise (suc (suc e)) d n ds ≡ true)
        → (leb d e && (ltb e m && (ltb e deepest && may_rise (suc (suc e)) d n ds))) ≡ true
    go (yes h) ih =
        (both_true _ _).1 (
          le-leb d e (omega arith),
          (both_true _ _).1 (
            lt-ltb e m (omega (arith, k.0.0)),
            (both_true _ _).1 (lt-ltb e deepest (omega (arith, k.0.1)), ih (k.0.2, omega (arith, deeper_lt d (suc e) (raise n ds) h, k.1))),
          ),
        )
    go (no h) ih = absurd (omega (arith, deeper_ge d (suc e) (raise n ds) (omega arith), k.1))

-- a row of depth d may return at a place just where its own step and depth are good and the n rows there may rise under it
return_test : (ds : List ℕ) (i d n : ℕ) → WellFormed ds → i ≤ length ds
    → may_return ds (suc i) d n ≡ (leb d (most_at ds (suc i)) && (leb d deepest && may_rise (suc d) d n (drop i ds)))
return_test ds i d n w h =
    same_test _ _
    (λ t.
    let k = (fits_test ds (suc i) d n).0 t in
    let g = good_rest 0 i ds (d ∷ raise n (drop i ds)) h (well_good _ k.well) in
    (both_true _ _).1 (
      le-leb _ _ (rw (most_at_lem ds i h) at g.0),
      (both_true _ _).1 (le-leb _ _ g.1, rise_of (suc d) d n (drop i ds) (g.2, sym (descendants_undo ds i d n h) ∙ k.below)),
    ))
    (λ t.
    let a = (both_true _ _).0 t in
    let b = (both_true _ _).0 a.1 in
    let p : d ≤ most_from 0 i ds = rw (most_at_lem ds i h) (leb-true _ _ a.0) in
    let k = rise_to (suc d) d n (most_from 0 i ds) (drop i ds) (omega arith) (good_behind 0 i ds (well_good ds w)) b.1 in
    (fits_test ds (suc i) d n).1
    (record {
      first = omega arith;
      last = omega arith;
      well = good_well _ (good_put 0 i ds (d ∷ raise n (drop i ds)) h (well_good ds w) (p, leb-true _ _ b.0, k.0));
      below = descendants_undo ds i d n h ∙ k.1;
    }))

-- the test of an entry whose row is within reach
pub return_here : (ds : List ℕ) (r d n : ℕ) → WellFormed ds → 1 ≤ r → r - 1 ≤ length ds
    → may_return ds r d n ≡ (leb d (most_at ds r) && (leb d deepest && may_rise (suc d) d n (drop (r - 1) ds)))
return_here ds r d n w a h = let z : suc (r - 1) ≡ r = omega arith in rw z at (return_test ds (r - 1) d n w h)

-- the test of the first b rows: there are too few, row i is the next, or none is left
pub rise_short : (ds : List ℕ) (m d b : ℕ) → length ds < b → may_rise m d b ds ≡ false
unfolding may_rise
rise_short ds m d zero h = absurd (omega arith)
rise_short [] m d (suc b) h = refl
rise_short (e ∷ ds) m d (suc b) h = go (leb d e) (ltb e m) (ltb e deepest) (rise_short ds (suc (suc e)) d b (omega arith))
  where
    go : (x y z : Bool) {w : Bool} → w ≡ false → (x && (y && (z && w))) ≡ false
    go true true true r = r
    go true true false r = refl
    go true false z r = refl
    go false y z r = refl

pub rise_turn : (ds : List ℕ) (i m d b : ℕ) → i < length (take b ds)
    → may_rise m d (b - i) (drop i ds)
    ≡ (leb d (get_or (take b ds) i 0)
    && (ltb (get_or (take b ds) i 0) m
    && (ltb (get_or (take b ds) i 0) deepest && may_rise (get_or (take b ds) i 0 + 2) d (b - (i + 1)) (drop (i + 1) ds))))
unfolding may_rise
rise_turn ds i m d b h =
    let l : i < length ds = omega (arith, length-take b ds) in
    let k : i < b = omega (arith, length-take b ds) in
    let v : get_or (take b ds) i 0 ≡ get_or ds i 0 = get_or-take b ds i 0 k in
    let t : get_or ds i 0 + 2 ≡ suc (suc (get_or ds i 0)) = omega arith in
    let u : i + 1 ≡ suc i = omega arith in
    let s : b - i ≡ suc (b - suc i) = omega arith in
    rw (v, t, u, s, drop-cons ds i 0 l, may_rise)

pub rise_last : (ds : List ℕ) (i m d b : ℕ) → b ≤ length ds → i ≡ length (take b ds)
    → may_rise m d (b - i) (drop i ds) ≡ (eqb (length ds) b || leb (get_or ds b 0) d)
unfolding may_rise
rise_last ds i m d b h e = go (dec_lt b (length ds))
  where
    j : i ≡ b
    j = e ∙ length-take-le b ds h

    z : b - b ≡ 0
    z = omega arith

    go : Dec (b < length ds) → may_rise m d (b - i) (drop i ds) ≡ (eqb (length ds) b || leb (get_or ds b 0) d)
    go (yes l) = rw (j, z, drop-cons ds b 0 l, ne_eqb (length ds) b (λ q. omega arith), may_rise)
    go (no l) =
        let q : length ds ≡ b = omega arith in
        let k : length ds ≤ b = omega arith in rw (j, z, drop_of_length-le ds k, eq-eqb (length ds) b q, may_rise)
