-- What `first_bad` finds: a finding is given exactly where it is true of the table. Assumes nothing.
use mathlib.Core.Path.{◌≡◌, refl, sym, ◌∙◌, ap, subst}
use mathlib.Core.Bool.{Bool, true, false, false≢true}
use mathlib.Core.List.{List}
use mathlib.Core.Logic.{◌↔◌}
use Prim.Native.Nat.{ℕ, zero, suc, ◌+◌, ◌-◌, ◌≤◌, ◌<◌}
use native.Mathlib.Nat.{not-suc-le-zero}
use native.Mathlib.Omega.{arith}
use native.Mathlib.Decide.{dec_le, dec_lt}
use lib.ListN.{length, take, drop}
use lib.Seq.{length-take-le, get_or-take}
use Rattle.std.specs.Prelude.{Result, Ok, Err}
use Rattle.rows.specs.declared.BadRow.{BadRow}
use Rattle.rows.specs.declared.BadRow.TheVariants.{Step, TooDeep}
use Rattle.rows.specs.Limits.{deepest}
use Rattle.rows.specs.Rows.{depth, Row, WellFormed}
use Rattle.rows.specs.FirstBad.{check_from, first_bad, most_at, BadStepAt, TooDeepAt, Says}
use Rattle.rows.proofs.CheckLaws.{check_step, check_deep, check_good, check_end}

-- row v is good: its step, and its depth
abbrev pub Good : List ℕ → ℕ → Type 0
Good ds v = (depth ds v ≤ most_at ds v) × (depth ds v ≤ deepest)

-- the first n rows are good
abbrev pub GoodTo : List ℕ → ℕ → Type 0
GoodTo ds n = (v : ℕ) → 1 ≤ v → v ≤ n → Good ds v

-- a finding that is true of the table
abbrev Finding : List ℕ → Type 0
Finding ds = (r : Result (Unit {0}) BadRow) × Says ds r

-- well-formed: all rows are good
good_of : (ds : List ℕ) → WellFormed ds → GoodTo ds (length ds)
good_of ds w zero p q = omega arith
good_of ds w (suc zero) p q = let e = w.outline.first (p, q) in (omega arith, w.shallow 1 (p, q))
good_of ds w (suc (suc i)) p q = (w.outline.step (suc i) (omega arith, omega arith) (p, q), w.shallow (suc (suc i)) (p, q))

-- all rows are good: well-formed
of_good : (ds : List ℕ) → GoodTo ds (length ds) → WellFormed ds
of_good ds g =
    record {
      outline = record { first = λ r. let h = g 1 r.0 r.1 in omega arith; step = step };
      shallow = λ v r. (g v r.0 r.1).1;
    }
  where
    step : (v : ℕ) → Row ds v → Row ds (suc v) → depth ds (suc v) ≤ suc (depth ds v)
    step zero r s = omega arith
    step (suc i) r s = (g (suc (suc i)) s.0 s.1).0

module _ (ds : List ℕ) (n : ℕ) where
  -- the first n rows of the table have the same depths, and may have the same
  depth_take : (v : ℕ) → v ≤ n → depth (take n ds) v ≡ depth ds v
  depth_take zero h = refl
  depth_take (suc i) h = get_or-take n ds i 0 h

  most_take : (v : ℕ) → v ≤ n → most_at (take n ds) v ≡ most_at ds v
  most_take zero h = refl
  most_take (suc zero) h = refl
  most_take (suc (suc i)) h = ap suc (depth_take (suc i) (omega arith))

  -- the first n rows make a well-formed table exactly if they are good
  good_take : n ≤ length ds → WellFormed (take n ds) ↔ GoodTo ds n
  good_take h =
      let e = length-take-le n ds h in (
        λ w v p q. rw (depth_take v q, most_take v q) at (good_of (take n ds) w v p (omega arith)),
        λ g. of_good (take n ds) (λ v p q. let k : v ≤ n = omega arith in rw (depth_take v k, most_take v k) (g v p k)),
      )

module _ (ds : List ℕ) where
  -- after n good rows the check goes on at the next
  check_to : (n : ℕ) → n ≤ length ds → GoodTo ds n → first_bad ds ≡ check_from (suc n) (most_at ds (suc n)) (drop n ds)
  check_to zero h g = refl
  check_to (suc n) h g =
      let k = g (suc n) (omega arith) (omega arith) in
      check_to n (omega arith) (λ v p q. g v p (omega arith)) ∙ check_good ds n (most_at ds (suc n)) h k.0 k.1

  -- so it does after a well-formed table of n rows
  check_before : (n : ℕ) → n < length ds → WellFormed (take (suc n - 1) ds) → first_bad ds ≡ check_from (suc n) (most_at ds (suc n)) (drop n ds)
  check_before n h w = let e : suc n - 1 ≡ n = omega arith in check_to n (omega arith) ((good_take ds n (omega arith)).0 (rw e at w))

  -- what is true of the table is found
  found : (r : Result (Unit {0}) BadRow) → Says ds r → first_bad ds ≡ r
  found (Ok x) w = check_to (length ds) (omega arith) (good_of ds w) ∙ check_end ds (length ds) _ (omega arith)
  found (Err (Step zero)) b = absurd (not-suc-le-zero b.row.0)
  found (Err (Step (suc n))) b = check_before n b.row.1 b.before ∙ check_step ds n _ b.row.1 b.step
  found (Err (TooDeep zero)) b = absurd (not-suc-le-zero b.row.0)
  found (Err (TooDeep (suc n))) b = check_before n b.row.1 b.before ∙ check_deep ds n _ b.row.1 b.step b.deep

  -- one more good row
  more : (n : ℕ) → GoodTo ds n → Good ds (suc n) → GoodTo ds (suc n)
  more n g k v p q = go (dec_le v n)
    where
      go : Dec (v ≤ n) → Good ds v
      go (yes h) = g v p h
      go (no h) = let e : v ≡ suc n = omega arith in rw e k

  -- `fine` says whether the first n rows are good, and `most` is the most that the next depth may be: what is said of one row more
  module _ (n most : ℕ) (fine : Bool) (m : (e : ℕ) → (e ≤ most) ↔ ((e ≤ most_at ds (suc n)) × (e ≤ deepest))) (f : (fine ≡ true) ↔ GoodTo ds n) where
    pub bad_next : most < depth ds (suc n) → (false ≡ true) ↔ GoodTo ds (suc n)
    bad_next h = (λ e. absurd (false≢true e), λ g. let k = (m (depth ds (suc n))).1 (g (suc n) (omega arith) (omega arith)) in absurd (omega arith))

    pub good_next : depth ds (suc n) ≤ most → (fine ≡ true) ↔ GoodTo ds (suc n)
    good_next h = (λ e. more n (f.0 e) ((m (depth ds (suc n))).0 h), λ g. f.1 (λ v p q. g v p (omega arith)))

  -- well-formed: all rows are good
  pub fine_good : WellFormed ds ↔ GoodTo ds (length ds)
  fine_good = (good_of ds, of_good ds)

  -- some finding is true of the table: look at the k rows after n good ones
  look : (k n : ℕ) → n + k ≡ length ds → GoodTo ds n → Finding ds
  look zero n e g = (Ok tt, of_good ds (λ v p q. g v p (omega arith)))
  look (suc k) n e g = go (dec_lt (most_at ds (suc n)) (depth ds (suc n))) (dec_lt deepest (depth ds (suc n))) (look k (suc n) (omega arith))
    where
      row : Row ds (suc n)
      row = (omega arith, omega arith)

      before : WellFormed (take (suc n - 1) ds)
      before = let z : suc n - 1 ≡ n = omega arith in rw z ((good_take ds n (omega arith)).1 g)

      go : Dec (most_at ds (suc n) < depth ds (suc n)) → Dec (deepest < depth ds (suc n)) → (GoodTo ds (suc n) → Finding ds) → Finding ds
      go (yes p) d next = (Err (Step (suc n)), record { row = row; before = before; step = p })
      go (no p) (yes q) next = (Err (TooDeep (suc n)), record { row = row; before = before; step = omega arith; deep = q })
      go (no p) (no q) next = next (more n g (omega arith, omega arith))

  -- a finding is given exactly where it is true of the table
  pub first_bad_iff : (r : Result (Unit {0}) BadRow) → (first_bad ds ≡ r) ↔ Says ds r
  first_bad_iff r =
      let t = look (length ds) 0 (omega arith) (λ v p q. omega arith) in
      (λ e. subst (Says ds) (sym (found t.0 t.1) ∙ e) t.1, found r)

  -- the table is well-formed
  pub fine_iff : (first_bad ds ≡ Ok tt) ↔ WellFormed ds
  fine_iff = first_bad_iff (Ok tt)

  -- v is the first bad row, for its step
  pub bad_step_iff : (v : ℕ) → (first_bad ds ≡ Err (Step v)) ↔ BadStepAt ds v
  bad_step_iff v = first_bad_iff (Err (Step v))

  -- v is the first bad row, for its depth
  pub too_deep_iff : (v : ℕ) → (first_bad ds ≡ Err (TooDeep v)) ↔ TooDeepAt ds v
  too_deep_iff v = first_bad_iff (Err (TooDeep v))
