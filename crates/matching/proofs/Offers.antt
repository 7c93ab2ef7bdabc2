-- Where the listing includes the recipe, the window of the next row has a row that holds it: an embedding about the row's parent
-- offers one, since the siblings before it close no later than there. Assumes nothing.
use mathlib.Core.Path.{◌≡◌, refl, sym, ap, ◌∙◌}
use mathlib.Core.List.{List}
use Prim.Native.Nat.{ℕ, zero, suc, ◌≤◌, ◌<◌}
use native.Mathlib.Omega.{arith}
use lib.ListN.{length}
use Rattle.rows.specs.Rows.{at, Row, Outline, last_row, Ancestor, LeftOf}
use Rattle.rows.specs.Embedding.{Embeds, Included}
use Rattle.rows.proofs.Depths.{last_fits, inside_ends}
use Rattle.rows.proofs.Order.{window}
use Rattle.rows.proofs.Inclusion.{embeds_part}
use Rattle.matching.specs.Family.{parent, left_sibling}
use Rattle.matching.specs.EarliestClose.{Tree, Allowed}
use Rattle.matching.specs.Placing.{Placed, lowest, highest, HeldIn}
use Rattle.matching.proofs.Family.{ParentView, root, child, parent_view, LeftView, first, next, left_view}
use Rattle.matching.proofs.Sides.{sooner}
use Rattle.matching.proofs.Placing.{window_iff}

-- a row's tree is within its parent's
within_parent : (ds : List ℕ) → Outline ds → (v : ℕ) → Row ds v → (parent ds v ≤ v) × (last_row ds v ≤ last_row ds (parent ds v))
within_parent ds k v r = go (parent_view ds k v r)
  where
    go : ParentView ds v → (parent ds v ≤ v) × (last_row ds v ≤ last_row ds (parent ds v))
    go (root z d f) = rw z (omega (arith, last_fits ds v r))
    go (child p) =
        let q : Row ds (parent ds v) = omega (arith, p.above) in
        let w = (window ds k (parent ds v) v q r).0 p.above in
        (omega (arith, p.above), inside_ends ds (parent ds v) v q (omega arith) w.1)

module _ (Fit : ℕ → ℕ → Type 0) (rd td : List ℕ) (kr : Outline rd) (kt : Outline td) (m : List ℕ) (n : ℕ) (fits : suc n ≤ length rd)
    (done : Placed Fit rd td m n) where
  -- e embeds the tree at row p, row 0 left out, and sends p to its image
  record Host (p : ℕ) (e : ℕ → ℕ) : Type 0 where
    embeds : Embeds Fit rd td (λ u. (1 ≤ u) × Tree rd p u) e
    top : (p ≡ 0 → ⊥) → e p ≡ at m p

  host : Included Fit rd td → (e : ℕ → ℕ) × Host (parent rd (suc n)) e
  host i = go (parent_view rd kr (suc n) (omega arith))
    where
      go : ParentView rd (suc n) → (e : ℕ → ℕ) × Host (parent rd (suc n)) e
      go (root z d f) =
          let e = embeds_part Fit rd td (Row rd) (λ u. (1 ≤ u) × Tree rd 0 u) (at i.0) (λ u h. omega arith) i.1.embeds in
          rw z (at i.0, record { embeds = e; top = λ x. absurd (x refl) })
      go (child p) =
          let h = (done (parent rd (suc n)) (omega (arith, p.above)) (omega (arith, p.above))).allowed.holds in
          let e = embeds_part Fit rd td (Tree rd (parent rd (suc n))) (λ u. (1 ≤ u) × Tree rd (parent rd (suc n)) u) h.0 (λ u t. t.1) h.2 in
          (h.0, record { embeds = e; top = λ x. h.1 })

  module _ (e : ℕ → ℕ) (h : Host (parent rd (suc n)) e) where
    abbrev Hosted : ℕ → Type 0
    Hosted u = (1 ≤ u) × Tree rd (parent rd (suc n)) u

    hosted : (w : ℕ) → Row rd w → parent rd w ≡ parent rd (suc n) → (u : ℕ) → Tree rd w u → Hosted u
    hosted w r s u t = omega (arith, rw s at (within_parent rd kr w r))

    -- the images that e has for the next row and its siblings are allowed, from left to right
    offer : (b w : ℕ) → w < b → Row rd w → w ≤ suc n → parent rd w ≡ parent rd (suc n) → Allowed Fit rd td m w (e w)
    offer zero w o r i s = absurd (omega arith)
    offer (suc b) w o r i s =
        let g = hosted w r s w (omega arith) in
        record {
          row = h.embeds.lands w g;
          below = λ z. under z (parent_view rd kr w r);
          right = λ z. beside (left_view rd kr w r) z (offer b (left_sibling rd w));
          holds = (e, refl, embeds_part Fit rd td Hosted (Tree rd w) e (hosted w r s) h.embeds);
        }
      where
        under : (parent rd w ≡ 0 → ⊥) → ParentView rd w → Ancestor td (at m (parent rd w)) (e w)
        under z (root y d f) = absurd (z y)
        under z (child p) =
            let q : Row rd (parent rd w) = omega (arith, p.above) in
            let x : Hosted (parent rd w) = (p.above.0, rw s (omega arith)) in
            let a = (h.embeds.ancestor (parent rd w) w x (hosted w r s w (omega arith))).0 p.above in
            rw (ap e s ∙ h.top (λ y. z (s ∙ y)) ∙ ap (at m) (sym s)) at a

        beside : LeftView rd w → (left_sibling rd w ≡ 0 → ⊥)
            → (left_sibling rd w < b → Row rd (left_sibling rd w) → left_sibling rd w ≤ suc n → parent rd (left_sibling rd w) ≡ parent rd (suc n)
            → Allowed Fit rd td m (left_sibling rd w) (e (left_sibling rd w))) → LeftOf td (at m (left_sibling rd w)) (e w)
        beside (first y d f) z ih = absurd (z y)
        beside (next l) z ih =
            let q : Row rd (left_sibling rd w) = omega (arith, l.left) in
            let t = l.alike ∙ s in
            let a = ih (omega (arith, l.left)) q (omega (arith, l.left)) t in
            let c = done (left_sibling rd w) q (omega (arith, l.left)) in
            let g = hosted w r s w (omega arith) in
            sooner td kt (at m (left_sibling rd w)) (e (left_sibling rd w)) (e w) c.allowed.row a.row (h.embeds.lands w g)
            (c.first (e (left_sibling rd w)) a)
            ((h.embeds.left (left_sibling rd w) w (hosted (left_sibling rd w) q t (left_sibling rd w) (omega arith)) g).0 l.left)

  -- so the search for the next row's image succeeds
  pub held_next : Included Fit rd td → HeldIn Fit rd td (suc n) (lowest rd td m (suc n)) (highest rd td m (suc n))
  held_next i =
      let e = host i in
      let a = (window_iff Fit rd td kr kt m n fits done (e.0 (suc n))).0 (offer e.0 e.1 (suc (suc n)) (suc n) (omega arith) (omega arith) (omega arith) refl) in
      (e.0 (suc n), a.0, a.1, a.2)
