-- How the first row to close of a window is found: in the first tree that has a row that obeys, and there the same way. Assumes nothing.
use mathlib.Core.Path.{◌≡◌, ap}
use mathlib.Core.List.{List}
use Prim.Native.Nat.{ℕ, zero, suc, ◌+◌, ◌≤◌, ◌<◌}
use native.Mathlib.Omega.{arith}
use native.Mathlib.Decide.{dec_le}
use lib.ListN.{length}
use Rattle.rows.specs.Rows.{Row, Outline, last_row, closing}
use Rattle.rows.proofs.Depths.{inside_ends}
use Rattle.rows.proofs.Order.{Compared, less, same, more, compared, window, behind_window}
use Rattle.matching.specs.Placing.{Closed, FirstIn}

-- the first to close is there, or no row obeys
pub data Sought (ds : List ℕ) (P : ℕ → Type 0) (lo hi : ℕ) : Type 0 where
  found : (t : ℕ) → FirstIn ds P lo hi t → Sought ds P lo hi
  nowhere : ((y : ℕ) → lo ≤ y → y ≤ hi → P y → ⊥) → Sought ds P lo hi

module _ (ds : List ℕ) (k : Outline ds) (P : ℕ → Type 0) where
  module _ (lo hi : ℕ) (one : 1 ≤ lo) (whole : last_row ds lo ≤ hi) (end : hi ≤ length ds) where
    behind : (y : ℕ) → last_row ds lo < y → y ≤ hi → closing ds lo < closing ds y
    behind y a b = ((behind_window ds k lo y (omega arith) (omega arith)).1 a).2

    -- some row below the window's first row obeys: the answer is the one sought below it
    pub enter : (t : ℕ) → FirstIn ds P (suc lo) (last_row ds lo) t → FirstIn ds P lo hi t
    enter t f =
        record {
          low = omega (arith, f.low);
          high = omega (arith, f.high);
          holds = f.holds;
          first = λ y a b p. go y a b p (compared lo y) (dec_le y (last_row ds lo));
        }
      where
        inside : closing ds t < closing ds lo
        inside = ((window ds k lo t (omega arith) (omega (arith, f.low, f.high))).1 (omega (arith, f.low), f.high)).2

        go : (y : ℕ) → lo ≤ y → y ≤ hi → P y → Compared lo y → Dec (y ≤ last_row ds lo) → closing ds t ≤ closing ds y
        go y a b p (less o) (yes i) = f.first y (omega arith) i p
        go y a b p (less o) (no i) = omega (arith, inside, behind y (omega arith) b)
        go y a b p (same o) d = omega (arith, inside, ap (closing ds) o)
        go y a b p (more o) d = absurd (omega arith)

    -- none does, and the first row obeys: it is the answer
    pub here : ((y : ℕ) → lo < y → y ≤ last_row ds lo → P y → ⊥) → P lo → FirstIn ds P lo hi lo
    here none h = record { low = omega arith; high = omega arith; holds = h; first = λ y a b p. go y a b p (compared lo y) (dec_le y (last_row ds lo)) }
      where
        go : (y : ℕ) → lo ≤ y → y ≤ hi → P y → Compared lo y → Dec (y ≤ last_row ds lo) → closing ds lo ≤ closing ds y
        go y a b p (less o) (yes i) = absurd (none y o i p)
        go y a b p (less o) (no i) = omega (arith, behind y (omega arith) b)
        go y a b p (same o) d = omega (arith, ap (closing ds) o)
        go y a b p (more o) d = absurd (omega arith)

    -- no row of the window's first tree obeys: the answer is the one sought behind it
    pub beyond : ((y : ℕ) → lo ≤ y → y ≤ last_row ds lo → P y → ⊥) → (t : ℕ) → FirstIn ds P (suc (last_row ds lo)) hi t → FirstIn ds P lo hi t
    beyond none t f = record { low = omega (arith, f.low); high = f.high; holds = f.holds; first = λ y a b p. go y a b p (dec_le y (last_row ds lo)) }
      where
        go : (y : ℕ) → lo ≤ y → y ≤ hi → P y → Dec (y ≤ last_row ds lo) → closing ds t ≤ closing ds y
        go y a b p (yes i) = absurd (none y a i p)
        go y a b p (no i) = f.first y (omega arith) b p

  -- no row before the rows lo to mid obeys, and the first to close of these has its tree among them: it is the first of the window
  pub widen : (a lo mid hi t : ℕ) → 1 ≤ a → a ≤ lo → mid ≤ hi → hi ≤ length ds → last_row ds t ≤ mid → ((y : ℕ) → a ≤ y → y < lo → P y → ⊥)
      → FirstIn ds P lo mid t → FirstIn ds P a hi t
  widen a lo mid hi t one low o end whole none f =
      record {
        low = omega (arith, f.low);
        high = omega (arith, f.high);
        holds = f.holds;
        first = λ y i j p. go y i j p (dec_le lo y) (dec_le y mid);
      }
    where
      go : (y : ℕ) → a ≤ y → y ≤ hi → P y → Dec (lo ≤ y) → Dec (y ≤ mid) → closing ds t ≤ closing ds y
      go y i j p (no k) d = absurd (none y i (omega arith) p)
      go y i j p (yes k) (yes l) = f.first y k l p
      go y i j p (yes k) (no l) = omega (arith, behind t hi (omega (arith, f.low)) (omega arith) end y (omega arith) j)

  -- a row of a narrower window obeys, whose trees end in it: the first of the wider one is the first of that
  pub narrow : (lo hi end t : ℕ) → 1 ≤ lo → hi ≤ end → end ≤ length ds → Closed ds lo hi → (y : ℕ) → lo ≤ y → y ≤ hi → P y → FirstIn ds P lo end t → FirstIn ds P lo hi t
  narrow lo hi end t one o fits c y a b p f =
      record { low = f.low; high = inside (dec_le t hi); holds = f.holds; first = λ z i j q. f.first z i (omega arith) q }
    where
      inside : Dec (t ≤ hi) → t ≤ hi
      inside (yes i) = i
      inside (no i) =
          let e = c y a b in
          absurd (omega (arith, f.first y a (omega arith) p, behind y end (omega arith) (omega arith) fits t (omega arith) f.high))

  -- so where it can be decided whether a row obeys, the search comes to an answer
  module _ (dec : (t : ℕ) → Row ds t → Dec (P t)) where
    seek : (n lo hi : ℕ) → hi < lo + n → 1 ≤ lo → hi ≤ length ds → Closed ds lo hi → Sought ds P lo hi
    seek zero lo hi h one end c = nowhere (λ y a b p. omega arith)
    seek (suc n) lo hi h one end c = go (dec_le lo hi) (seek n (suc lo) (last_row ds lo)) (seek n (suc (last_row ds lo)) hi)
      where
        Part : ℕ → ℕ → Type 0
        Part a b = b < a + n → 1 ≤ a → b ≤ length ds → Closed ds a b → Sought ds P a b

        rest : last_row ds lo ≤ hi → ((y : ℕ) → lo < y → y ≤ last_row ds lo → P y → ⊥) → (P lo → ⊥) → Sought ds P (suc (last_row ds lo)) hi → Sought ds P lo hi
        rest w none no-root (found t f) = found t (beyond lo hi one w end (λ y a b p. tree y a b p (dec_le y lo)) t f)
          where
            tree : (y : ℕ) → lo ≤ y → y ≤ last_row ds lo → P y → Dec (y ≤ lo) → ⊥
            tree y a b p (yes i) = let e : y ≡ lo = omega arith in no-root (rw e at p)
            tree y a b p (no i) = none y (omega arith) b p
        rest w none no-root (nowhere f) = nowhere (λ y a b p. all y a b p (dec_le y lo) (dec_le y (last_row ds lo)))
          where
            all : (y : ℕ) → lo ≤ y → y ≤ hi → P y → Dec (y ≤ lo) → Dec (y ≤ last_row ds lo) → ⊥
            all y a b p (yes i) d = let e : y ≡ lo = omega arith in no-root (rw e at p)
            all y a b p (no i) (yes j) = none y (omega arith) j p
            all y a b p (no i) (no j) = f y (omega arith) b p

        root : last_row ds lo ≤ hi → Sought ds P (suc lo) (last_row ds lo) → Dec (P lo) → Part (suc (last_row ds lo)) hi → Sought ds P lo hi
        root w (found t f) d out = found t (enter lo hi one w end t f)
        root w (nowhere f) (yes p) out = found lo (here lo hi one w end f p)
        root w (nowhere f) (no p) out = rest w f p (out (omega arith) (omega arith) end (λ y a b. c y (omega arith) b))

        go : Dec (lo ≤ hi) → Part (suc lo) (last_row ds lo) → Part (suc (last_row ds lo)) hi → Sought ds P lo hi
        go (no i) inn out = nowhere (λ y a b p. omega arith)
        go (yes i) inn out =
            let w = c lo (omega arith) i in
            root w (inn (omega arith) (omega arith) (omega arith) (λ y a b. inside_ends ds lo y (omega arith) (omega arith) b))
            (dec lo (omega arith)) out

    pub sought : (lo hi : ℕ) → 1 ≤ lo → hi ≤ length ds → Closed ds lo hi → Sought ds P lo hi
    sought lo hi one end c = seek (suc hi) lo hi (omega arith) one end c
