-- The map of earliest close: there is at most one, it is an embedding, and there is one where the listing includes the recipe.
-- Assumes nothing.
use mathlib.Core.Path.{◌≡◌, refl, sym, ◌∙◌}
use mathlib.Core.List.{List}
use mathlib.Core.Logic.{◌↔◌}
use Prim.Native.Nat.{ℕ, zero, suc, ◌≤◌, ◌<◌}
use native.Mathlib.Omega.{arith}
use lib.ListN.{length, set, take, length-set}
use lib.Seq.{ext_get_or, get_or-take, length-take-le}
use Rattle.rows.specs.Rows.{at, Row, Outline}
use Rattle.rows.specs.Embedding.{Embedding, Included}
use Rattle.rows.proofs.Order.{window, behind_window}
use Rattle.rows.proofs.Inclusion.{embeds_from, listed, length_listed}
use Rattle.matching.specs.EarliestClose.{Holds, EarliestClose}
use Rattle.matching.specs.Placing.{Placed, lowest, highest, HeldIn}
use Rattle.matching.proofs.Sides.{one_closing}
use Rattle.matching.proofs.Holds.{dec_holds}
use Rattle.matching.proofs.FirstIn.{Sought, found, nowhere, sought}
use Rattle.matching.proofs.Placing.{allowed_same, earliest_same, highest_fits, window_closed, placed_next}
use Rattle.matching.proofs.Keeps.{Keeps, keeps}
use Rattle.matching.proofs.Offers.{held_next}

-- at most one map
module _ (Fit : ℕ → ℕ → Type 0) (rd td : List ℕ) (kt : Outline td) (m n : List ℕ) (km : EarliestClose Fit rd td m) (kn : EarliestClose Fit rd td n) where
  agree : (b v : ℕ) → v < b → v ≤ length rd → at m v ≡ at n v
  agree zero v o h = absurd (omega arith)
  agree (suc b) zero o h = refl
  agree (suc b) (suc i) o h =
      let e : (u : ℕ) → u < suc i → at m u ≡ at n u = λ u a. agree b u (omega arith) (omega arith) in
      let x = km.each (suc i) (omega arith) in
      let y = kn.each (suc i) (omega arith) in
      let p = x.first (at n (suc i)) (allowed_same Fit rd td n m (suc i) (at n (suc i)) (omega arith) (λ u a. sym (e u a)) y.allowed) in
      let q = y.first (at m (suc i)) (allowed_same Fit rd td m n (suc i) (at m (suc i)) (omega arith) e x.allowed) in
      one_closing td kt (at m (suc i)) (at n (suc i)) x.allowed.row y.allowed.row (omega arith)

  pub earliest_one : m ≡ n
  earliest_one = ext_get_or 0 m n (km.count ∙ sym kn.count) (λ i h. agree (suc (suc i)) (suc i) (omega arith) (omega (arith, km.count)))

-- it is an embedding: the images of placed rows keep ancestry and left-of
module _ (Fit : ℕ → ℕ → Type 0) (rd td : List ℕ) (kr : Outline rd) (kt : Outline td) (m : List ℕ) (k : EarliestClose Fit rd td m) where
  image : (v : ℕ) → Row rd v → Row td (at m v)
  image v r = (k.each v r).allowed.row

  kept : (v : ℕ) → Row rd v → Keeps rd td m v (at m v)
  kept v r = keeps Fit rd td kr kt m (length rd) (λ u q o. k.each u q) v r r.1

  fit_of : (v : ℕ) → Row rd v → Fit v (at m v)
  fit_of v r = let h = (k.each v r).allowed.holds in rw h.1 at (h.2.fits v (omega arith))

  pub earliest_embeds : Embedding Fit rd td m
  earliest_embeds =
      record {
        count = k.count;
        embeds = embeds_from Fit rd td kr (Row rd) (at m) (λ v r. r)
            (λ u v q r a. (window td kt (at m u) (at m v) (image u q) (image v r)).1 (omega (arith, (kept v r u).0 a)))
            (λ u v q r a. (behind_window td kt (at m u) (at m v) (image u q) (image v r)).1 ((kept v r u).1 a)) image fit_of;
      }

-- the front of a list in which all rows are placed is the map
pub placed_all : (Fit : ℕ → ℕ → Type 0) (rd td m : List ℕ) → length rd ≤ length m → Placed Fit rd td m (length rd) → EarliestClose Fit rd td (take (length rd) m)
placed_all Fit rd td m h k =
    record {
      count = length-take-le (length rd) m h;
      each = λ v r. earliest_same Fit rd td m (take (length rd) m) v r.0 (λ u b. front u (omega arith)) (k v r r.1);
    }
  where
    front : (u : ℕ) → u ≤ length rd → at m u ≡ at (take (length rd) m) u
    front zero b = refl
    front (suc i) b = sym (get_or-take (length rd) m i 0 (omega arith))

-- where the recipe is included, row by row of it is placed
module _ (Fit : ℕ → ℕ → Type 0) (rd td : List ℕ) (kr : Outline rd) (kt : Outline td) (dec : (v t : ℕ) → Dec (Fit v t)) where
  place : (m : List ℕ) (n : ℕ) → suc n ≤ length rd → length m ≡ length rd → Placed Fit rd td m n
      → HeldIn Fit rd td (suc n) (lowest rd td m (suc n)) (highest rd td m (suc n))
      → Sought td (Holds Fit rd td (suc n)) (lowest rd td m (suc n)) (highest rd td m (suc n))
      → (m : List ℕ) × (length m ≡ length rd) × Placed Fit rd td m (suc n)
  place m n h c p (y, a, b, q) (nowhere f) = absurd (f y a b q)
  place m n h c p held (found t f) = (set m n t, length-set m n t ∙ c, placed_next Fit rd td kr kt m n h p t (omega arith) f)

  place_to : Included Fit rd td → (n : ℕ) → n ≤ length rd → (m : List ℕ) × (length m ≡ length rd) × Placed Fit rd td m n
  place_to i zero h = (listed (length rd) (λ v. 0), length_listed (length rd) (λ v. 0), λ u r b. absurd (omega arith))
  place_to i (suc n) h =
      let s = place_to i n (omega arith) in
      let m = s.0 in
      place m n h s.1 s.2 (held_next Fit rd td kr kt m n h s.2 i)
      (sought td kt (Holds Fit rd td (suc n)) (λ t r. dec_holds Fit rd td kr kt (suc n) t (omega arith) r dec)
      (lowest rd td m (suc n)) (highest rd td m (suc n)) (omega arith) (highest_fits Fit rd td kr kt m n h s.2) (window_closed Fit rd td kr kt m n h s.2))

  pub earliest_is : Included Fit rd td → (m : List ℕ) × EarliestClose Fit rd td m
  earliest_is i = let s = place_to i (length rd) (omega arith) in (s.0, record { count = s.1; each = λ v r. s.2 v r r.1 })

  pub earliest_iff : Included Fit rd td ↔ ((m : List ℕ) × EarliestClose Fit rd td m)
  earliest_iff = (earliest_is, λ k. (k.0, earliest_embeds Fit rd td kr kt k.0 k.1))
