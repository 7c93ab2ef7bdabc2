-- Undo takes a strike back, and number 29: when a row may return. Assumes nothing.
use mathlib.Core.Path.{◌≡◌, refl, sym, ap, ◌∙◌}
use mathlib.Core.Bool.{true}
use mathlib.Core.Logic.{◌↔◌}
use mathlib.Core.List.{List, [], ◌∷◌}
use Prim.Native.Nat.{ℕ, zero, suc, ◌-◌, ◌≤◌, ◌<◌}
use native.Mathlib.Omega.{arith}
use native.Mathlib.Decide.{dec_lt}
use lib.ListN.{length, drop}
use borrow.Author.Tests.{leb-true, eqb-true, le-leb, eq-eqb}
use Rattle.rows.specs.Rows.{at, Row, depth, deeper, descendants, WellFormed}
use Rattle.std.specs.Prelude.{Result, Ok, Err}
use Rattle.rows.specs.declared.BadRow.{BadRow}
use Rattle.rows.proofs.Deeper.{deeper_lt, deeper_ge}
use Rattle.rows.proofs.FirstBad.{fine_iff}
use Rattle.rows.proofs.Tests.{both_true}
use Rattle.journal.specs.Strike.{lower, raise, strike_depths, without, undo_depths, put_back}
use Rattle.journal.specs.Entry.{Entry, Struck, Undoable, is_fine, may_return}
use Rattle.journal.proofs.Shifts.{length_first}
use Rattle.journal.proofs.Strikes.{length_strike}

-- what sinks may rise again, and back
pub lower_raise : (n : ℕ) (ds : List ℕ) → lower n (raise n ds) ≡ ds
lower_raise zero ds = refl
lower_raise (suc n) [] = refl
lower_raise (suc n) (d ∷ ds) = let z : suc d - 1 ≡ d = omega arith in rw (z, lower_raise n ds)

raise_lower : (d : ℕ) (ds : List ℕ) → raise (deeper d ds) (lower (deeper d ds) ds) ≡ ds
raise_lower d [] = refl
raise_lower d (e ∷ ds) = go (dec_lt d e) (raise_lower d ds)
  where
    go : Dec (d < e) → raise (deeper d ds) (lower (deeper d ds) ds) ≡ ds → raise (deeper d (e ∷ ds)) (lower (deeper d (e ∷ ds)) (e ∷ ds)) ≡ e ∷ ds
    go (yes u) ih = let z : suc (e - 1) ≡ e = omega arith in rw (deeper_lt d e ds u, z, ih)
    go (no u) ih = rw (deeper_ge d e ds (omega arith))

-- a row put back: its depth, its descendants, and its strike
pub depth_undo : (ds : List ℕ) (i d n : ℕ) → i ≤ length ds → depth (undo_depths ds (suc i) d n) (suc i) ≡ d
depth_undo ds zero d n h = refl
depth_undo [] (suc i) d n h = absurd (omega arith)
depth_undo (e ∷ ds) (suc i) d n h = depth_undo ds i d n (omega arith)

pub descendants_undo : (ds : List ℕ) (i d n : ℕ) → i ≤ length ds → descendants (undo_depths ds (suc i) d n) (suc i) ≡ deeper d (raise n (drop i ds))
descendants_undo ds zero d n h = refl
descendants_undo [] (suc i) d n h = absurd (omega arith)
descendants_undo (e ∷ ds) (suc i) d n h = descendants_undo ds i d n (omega arith)

pub strike_undo : (ds : List ℕ) (i d n : ℕ) → i ≤ length ds → deeper d (raise n (drop i ds)) ≡ n → strike_depths (undo_depths ds (suc i) d n) (suc i) ≡ ds
strike_undo ds zero d n h e = rw (e, lower_raise n ds)
strike_undo [] (suc i) d n h e = absurd (omega arith)
strike_undo (x ∷ ds) (suc i) d n h e = ap (λ (l : List ℕ). x ∷ l) (strike_undo ds i d n (omega arith) e)

-- undo takes a strike back
pub undo_strike : (ds : List ℕ) (r : ℕ) → Row ds r → undo_depths (strike_depths ds r) r (depth ds r) (descendants ds r) ≡ ds
undo_strike ds zero h = absurd (omega arith)
undo_strike ds (suc i) h = go ds i h.1
  where
    go : (ds : List ℕ) (i : ℕ) → i < length ds → undo_depths (strike_depths ds (suc i)) (suc i) (depth ds (suc i)) (descendants ds (suc i)) ≡ ds
    go [] i h = absurd (omega arith)
    go (d ∷ ds) zero h = ap (λ (l : List ℕ). d ∷ l) (raise_lower d ds)
    go (d ∷ ds) (suc i) h = ap (λ (l : List ℕ). d ∷ l) (go ds i (omega arith))

-- of what the rows carry
pub put_without : (xs : List ℕ) (r : ℕ) → Row xs r → put_back (without xs r) r (at xs r) ≡ xs
put_without xs zero h = absurd (omega arith)
put_without xs (suc i) h = go xs i h.1
  where
    go : (xs : List ℕ) (i : ℕ) → i < length xs → put_back (without xs (suc i)) (suc i) (at xs (suc i)) ≡ xs
    go [] i h = absurd (omega arith)
    go (x ∷ xs) zero h = refl
    go (x ∷ xs) (suc i) h = ap (λ (l : List ℕ). x ∷ l) (go xs i (omega arith))

module _ (a : ℕ) where
  at_put : (xs : List ℕ) (i : ℕ) → i ≤ length xs → at (put_back xs (suc i) a) (suc i) ≡ a
  at_put xs zero h = refl
  at_put [] (suc i) h = absurd (omega arith)
  at_put (x ∷ xs) (suc i) h = at_put xs i (omega arith)

  without_put : (xs : List ℕ) (i : ℕ) → i ≤ length xs → without (put_back xs (suc i) a) (suc i) ≡ xs
  without_put xs zero h = refl
  without_put [] (suc i) h = absurd (omega arith)
  without_put (x ∷ xs) (suc i) h = ap (λ (l : List ℕ). x ∷ l) (without_put xs i (omega arith))

  pub length_put : (xs : List ℕ) (i : ℕ) → i ≤ length xs → length (put_back xs (suc i) a) ≡ suc (length xs)
  length_put xs zero h = refl
  length_put [] (suc i) h = absurd (omega arith)
  length_put (x ∷ xs) (suc i) h = ap suc (length_put xs i (omega arith))

pub length_undo : (ds : List ℕ) (i d n : ℕ) → i ≤ length ds → length (undo_depths ds (suc i) d n) ≡ suc (length ds)
length_undo ds zero d n h = ap suc (length_first suc n ds)
length_undo [] (suc i) d n h = absurd (omega arith)
length_undo (e ∷ ds) (suc i) d n h = ap suc (length_undo ds i d n (omega arith))

-- what the test says
fine_test : (k : Result (Unit {0}) BadRow) → (is_fine k ≡ true) ↔ (k ≡ Ok tt)
fine_test (Ok u) = (λ e. refl, λ e. refl)
fine_test (Err bad) = (λ e. cc, λ e. cc)

pub record Fits (ds : List ℕ) (r d n : ℕ) : Type 0 where
  pub first : 1 ≤ r
  pub last : r ≤ suc (length ds)
  pub well : WellFormed (undo_depths ds r d n)
  pub below : descendants (undo_depths ds r d n) r ≡ n

pub fits_test : (ds : List ℕ) (r d n : ℕ) → (may_return ds r d n ≡ true) ↔ Fits ds r d n
unfolding may_return
fits_test ds r d n = (
  λ e.
      let a = (both_true _ _).0 e in
      let b = (both_true _ _).0 a.1 in
      let f = (both_true _ _).0 b.1 in
      record {
        first = leb-true _ _ a.0;
        last = leb-true _ _ b.0;
        well = (fine_iff _).0 ((fine_test _).0 f.0);
        below = eqb-true _ _ f.1;
      },
  λ k.
      (both_true _ _).1 (
        le-leb _ _ k.first,
        (both_true _ _).1 (
          le-leb _ _ k.last,
          (both_true _ _).1
              ((fine_test _).1 ((fine_iff _).1 k.well), eq-eqb _ _ k.below),
        ),
      ),
)

-- number 29 exactly: the test holds just where some well-formed table has a row as the entry says whose strike leaves the present table
pub undoable_iff : (ds ls : List ℕ) (e : Entry) → length ls ≡ length ds → (may_return ds e.row e.depth e.below ≡ true) ↔ Undoable e ds ls
undoable_iff ds ls e n = (
  λ t. to e.row e.label e.depth e.below ((fits_test ds e.row e.depth e.below).0 t),
  λ u. of u.0 u.1.0 u.1.1,
)
  where
    to : (r a d m : ℕ) → Fits ds r d m → Undoable (record { row = r; label = a; depth = d; below = m }) ds ls
    to zero a d m k = absurd (omega (arith, k.first))
    to (suc i) a d m k =
        let h : i ≤ length ds = omega (arith, k.last) in
        let l : i ≤ length ls = omega arith in (
          undo_depths ds (suc i) d m,
          (
            put_back ls (suc i) a,
            record {
              well_formed = k.well;
              labelled = length_put a ls i l ∙ ap suc n ∙ sym (length_undo ds i d m h);
              row = (omega arith, omega (arith, length_undo ds i d m h));
              says = cc (at_put a ls i l, depth_undo ds i d m h, k.below);
              depths_left = strike_undo ds i d m h (sym (descendants_undo ds i d m h) ∙ k.below);
              labels_left = without_put a ls i l;
            },
          ),
        )

    of : (us ws : List ℕ) → Struck e ds ls us ws → may_return ds e.row e.depth e.below ≡ true
    of us ws k =
        let d : depth us e.row ≡ e.depth = ap (λ (x : Entry). x.depth) k.says in
        let b : descendants us e.row ≡ e.below = ap (λ (x : Entry). x.below) k.says in
        let u : undo_depths ds e.row e.depth e.below ≡ us =
        rw (← k.depths_left, ← d, ← b) (undo_strike us e.row k.row) in
        (fits_test ds e.row e.depth e.below).1
        (record {
          first = k.row.0;
          last = omega (arith, k.row.1, length_strike us e.row k.row, ap length k.depths_left);
          well = rw u k.well_formed;
          below = rw u b;
        })
