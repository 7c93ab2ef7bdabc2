-- What the marks in the map and the log say of the rows of a path, while the map's images are found. Assumes nothing.
use mathlib.Core.Path.{◌≡◌, sym, ap, ◌∙◌}
use mathlib.Core.List.{List}
use Prim.Native.Nat.{ℕ, zero, suc, ◌≤◌, ◌<◌}
use native.Mathlib.Omega.{arith}
use native.Mathlib.Decide.{dec_le}
use lib.ListN.{length, set}
use lib.Seq.{get_or-set_same}
use Rattle.rows.specs.Rows.{at, Outline, last_row, closing, Ancestor, LeftOf}
use Rattle.rows.proofs.Order.{Compared, less, same, more, compared, Later, in_tree, past_tree, later, window}
use Rattle.matching.specs.Family.{parent}
use Rattle.matching.specs.EarliestClose.{Holds}
use Rattle.matching.specs.Placing.{Placed, lowest, highest, HeldIn, Closed, FirstIn}
use Rattle.matching.specs.Asked.{chain}
use Rattle.matching.specs.Path.{logged, Path, PathAsked, Within, Tells, Told, Logged, Slot, stays, marked, Marks, Marked}
use Rattle.matching.specs.Images.{Cleared}
use Rattle.matching.proofs.Family.{ParentView, root, child, parent_view}
use Rattle.matching.proofs.Sides.{above_above}
use Rattle.matching.proofs.FirstIn.{narrow, widen}
use Rattle.matching.proofs.PathLaws.{on_below}
use Rattle.matching.proofs.Placing.{at_other, earliest_same}
use Rattle.matching.proofs.Keeps.{keeps_next}

module _ (Fit : ℕ → ℕ → Type 0) (rd td : List ℕ) (kr : Outline rd) (kt : Outline td) where
  -- the log tells of c for all rows of a window that has its trees whole: the first to close of those that it names is the first to hold c
  module _ (from hi c i : ℕ) (ls : List ℕ) (fits : hi ≤ length td) (whole : Closed td (suc from) hi)
      (told : (t : ℕ) → from < t → t ≤ hi → Tells Fit rd td ls t i c) (held : HeldIn Fit rd td c (suc from) hi) where
    -- the log names a row if it fits c and has at most c's place there
    abbrev Names : ℕ → Type 0
    Names y = Fit c y × (logged ls y ≤ i)

    told_at : (t : ℕ) → suc from ≤ t → t ≤ hi → Holds Fit rd td c t → Names t
    told_at t a b h = (rw h.1 at (h.2.fits c (omega arith, omega arith)), (told t a b).0 h)

    pub told_some : (y : ℕ) × (suc from ≤ y) × (y ≤ length td) × Fit c y × (logged ls y ≤ i)
    told_some = let (y, a, b, h) = held in let n = told_at y a b h in (y, a, omega arith, n.0, n.1)

    pub told_first : (t : ℕ) → FirstIn td Names (suc from) (length td) t → FirstIn td (Holds Fit rd td c) (suc from) (length td) t
    told_first t f =
        let (y, a, b, h) = held in
        let g = narrow td kt Names (suc from) hi (length td) t (omega arith) fits (omega arith) whole y a b (told_at y a b h) f in
        go g ((told t g.low g.high).1 g.holds.0 g.holds.1)
      where
        alone : (z : ℕ) → suc from ≤ t → t ≤ z → z ≤ last_row td t → z ≤ hi → closing td t ≤ closing td z → Dec (z ≤ t) → z ≡ t
        alone z l a b h c (yes o) = omega arith
        alone z l a b h c (no o) = absurd (omega (arith, (window td kt t z (omega arith) (omega arith)).1 (omega arith)))

        go : FirstIn td Names (suc from) hi t → Within Fit rd td c t → FirstIn td (Holds Fit rd td c) (suc from) (length td) t
        go g (z, a, b, h) =
            let w = whole t g.low g.high in
            let l = g.low in
            let e = alone z l a b (omega arith) (g.first z (omega arith) (omega arith) (told_at z (omega arith) (omega arith) h)) (dec_le z t) in
            widen td kt (Holds Fit rd td c) (suc from) (suc from) hi (length td) t (omega arith) (omega arith) fits (omega arith) w
            (λ y o n q. absurd (omega arith))
            (record { low = g.low; high = g.high; holds = rw e at h; first = λ y o n q. g.first y o n (told_at y o n q) })

  -- where no row has an image or a mark, there is nothing to tell
  pub marked_none : (m₀ m ls : List ℕ) → Cleared rd m₀ m → Marked Fit rd td ls m 0
  marked_none m₀ m ls k =
      record {
        up = λ c o h a b. absurd (omega (arith, k.none c h));
        told = λ c o h a. absurd (omega (arith, k.none c h));
      }

  -- a marked row gets its image: the marks of later rows and the log stay
  pub marked_kept : (ls m : List ℕ) (n : ℕ) → Marked Fit rd td ls m n → (t : ℕ) → Marked Fit rd td ls (set m n t) (suc n)
  marked_kept ls m n k t =
      record {
        up = λ c o h a b. rw (other (parent rd c) (λ e. omega arith)) (k.up c (omega arith) h (rw (after c o) at a) (omega arith));
        told = λ c o h a.
            let (v, b, l, f) = k.told c (omega arith) h (rw (after c o) at a) in (
              v,
              b,
              omega arith,
              λ y i j g.
                  rw (after c o) (f y (rw (before v l) at i) (rw (before v l) at j) (λ u q x. rw (before u q) at (g u (omega arith) x))),
            );
      }
    where
      other : (u : ℕ) → (u ≡ suc n → ⊥) → at (set m n t) u ≡ at m u
      other = at_other m n t

      after : (c : ℕ) → suc n < c → at (set m n t) c ≡ at m c
      after c o = other c (λ e. omega arith)

      before : (u : ℕ) → u ≤ n → at (set m n t) u ≡ at m u
      before u o = other u (λ e. omega arith)

  -- the rows of a path behind its first are below it, so their marks disturb no image
  module _ (asked : List ℕ) (n k : ℕ) (p : Path rd asked k) (top : chain asked 0 ≡ suc n) where
    pub marks_images : (m m' : List ℕ) → Marks rd asked k 63 m m' → (u : ℕ) → u ≤ suc n → at m' u ≡ at m u
    marks_images m m' h u o = go (h.slots u)
      where
        go : Slot rd asked k 63 m m' u → at m' u ≡ at m u
        go (stays e) = e
        go (marked i a b s e r) = absurd (omega (arith, (on_below rd kr asked k p i u a s).1))

    pub marks_placed : (m m' : List ℕ) → Marks rd asked k 63 m m' → Placed Fit rd td m n → Placed Fit rd td m' n
    marks_placed m m' h done u r o = earliest_same Fit rd td m m' u r.0 (λ w b. sym (marks_images m m' h w (omega arith))) (done u r o)

  -- above a marked row the first row without an image has a mark too
  marked_above : (ls m : List ℕ) (n : ℕ) → Marked Fit rd td ls m n → (b c : ℕ) → c < b → n < c → c ≤ length rd → 1 ≤ at m c → Ancestor rd (suc n) c → 1 ≤ at m (suc n)
  marked_above ls m n k zero c o i h a l = absurd (omega arith)
  marked_above ls m n k (suc b) c o i h a l = go (parent_view rd kr c (omega arith)) (marked_above ls m n k b (parent rd c))
    where
      go : ParentView rd c
          → (parent rd c < b → n < parent rd c → parent rd c ≤ length rd → 1 ≤ at m (parent rd c) → Ancestor rd (suc n) (parent rd c) → 1 ≤ at m (suc n))
          → 1 ≤ at m (suc n)
      go (root z d f) ih = absurd (f (suc n) l)
      go (child q) ih = at_parent (q.nearest (suc n) l) q.above.1 (compared (suc n) (parent rd c))
        where
          at_parent : suc n ≤ parent rd c → parent rd c < c → Compared (suc n) (parent rd c) → 1 ≤ at m (suc n)
          at_parent x y (less z) = ih (omega arith) x (omega arith) (k.up c i h a x) (above_above rd kr (suc n) (parent rd c) c (omega arith) l y z)
          at_parent x y (same z) = rw (ap (at m) z) (k.up c i h a x)
          at_parent x y (more z) = absurd (omega arith)

  -- a row without a mark gets its image, and rows of a path below it get marks: ms tells of the path in the tree at the image, and behind
  -- that tree tells what ls told
  module _ (ls ms m m' asked : List ℕ) (n k t : ℕ) (old : Marked Fit rd td ls m n) (blank : at m (suc n) ≡ 0) (some : 1 ≤ k) (p : Path rd asked k)
      (top : chain asked 0 ≡ suc n) (room : length rd ≤ length m) (marks : Marks rd asked k 63 m m')
      (tells : (y : ℕ) → t ≤ y → y ≤ last_row td t → Told Fit rd td asked k ms y) (stay : (y : ℕ) → last_row td t < y → logged ms y ≡ logged ls y) where
    fits : suc n ≤ length rd
    fits = omega (arith, p.rows 0 some)

    here : at (set m' n t) (suc n) ≡ t
    here = get_or-set_same m' n t 0 (omega (arith, fits, marks.size))

    other : (u : ℕ) → (u ≡ suc n → ⊥) → at (set m' n t) u ≡ at m' u
    other = at_other m' n t

    before : (u : ℕ) → u ≤ n → at (set m' n t) u ≡ at m u
    before u o = other u (λ e. omega arith) ∙ marks_images asked n k p top m m' marks u (omega arith)

    abbrev Spot : ℕ → Type 0
    Spot c = Slot rd asked k 63 m m' c

    up : (c : ℕ) → suc n < c → c ≤ length rd → 1 ≤ at m' c → suc n < parent rd c → Spot c → Spot (parent rd c) → 1 ≤ at m' (parent rd c)
    up c o h a b (marked i x y z e r) s = r (omega arith)
    up c o h a b (stays q) (marked i x y z e r) = omega arith
    up c o h a b (stays q) (stays r) = rw r (old.up c (omega arith) h (rw q at a) (omega arith))

    abbrev TellsOf : ℕ → ℕ → Type 0
    TellsOf c v =
        (y : ℕ) → at (set m' n t) v ≤ y → y ≤ last_row td (at (set m' n t) v)
        → ((u : ℕ) → u ≤ suc n → LeftOf rd u c → last_row td (at (set m' n t) u) < y) → Tells Fit rd td ms y (at m' c) c

    told : (c : ℕ) → suc n < c → c ≤ length rd → 1 ≤ at m' c → Spot c → Later rd kr (suc n) c → (v : ℕ) × Ancestor rd v c × (v ≤ suc n) × TellsOf c v
    told c o h a (marked i x w z e s) d = (
      suc n,
      rw top at (on_below rd kr asked k p i c x z),
      omega arith,
      λ y l r g. rw e ((tells y (rw here at l) (rw here at r)) i c x w z),
    )
    told c o h a (stays q) (in_tree b) = absurd (omega (arith, blank, marked_above ls m n old (suc c) c (omega arith) (omega arith) h (rw q at a) b))
    told c o h a (stays q) (past_tree b) =
        let (v, x, w, f) = old.told c (omega arith) h (rw q at a) in (
          v,
          x,
          omega arith,
          λ y l r g.
              rw (q, stay y (rw here at (g (suc n) (omega arith) b)))
              (f y (rw (before v w) at l) (rw (before v w) at r) (λ u s z. rw (before u s) at (g u (omega arith) z))),
        )

    pub marked_path : Marked Fit rd td ms (set m' n t) (suc n)
    marked_path =
        record {
          up = λ c o h a b.
              rw (other (parent rd c) (λ e. omega arith))
              (up c o h (rw (other c (λ e. omega arith)) at a) b (marks.slots c) (marks.slots (parent rd c)));
          told = λ c o h a.
              rw (other c (λ e. omega arith))
              (told c o h (rw (other c (λ e. omega arith)) at a) (marks.slots c) (later rd kr (suc n) c (omega (arith, fits)) (omega arith) o));
        }

  -- so it is where a search for the path came upon the image of its first row
  pub marked_pass : (ls ls' m m' asked us : List ℕ) (n k from t : ℕ) → Marked Fit rd td ls m n → at m (suc n) ≡ 0 → PathAsked rd asked k
      → chain asked 0 ≡ suc n → length rd ≤ length m → Marks rd asked k 63 m m' → Logged Fit rd td asked k ls from t us ls'
      → Marked Fit rd td ls' (set m' n t) (suc n)
  marked_pass ls ls' m m' asked us n k from t old blank p top room marks l =
      marked_path ls ls' m m' asked n k t old blank p.some p.path top room marks l.told (λ y h. l.kept.stays y (λ a b. omega arith))

  -- the log tells of the whole window of the row after the placed ones, if that has a mark
  pub marked_window : (m : List ℕ) (n : ℕ) → Placed Fit rd td m n → (ls : List ℕ) → suc n ≤ length rd → Marked Fit rd td ls m n → 1 ≤ at m (suc n) → (t : ℕ)
      → lowest rd td m (suc n) ≤ t → t ≤ highest rd td m (suc n) → Tells Fit rd td ls t (at m (suc n)) (suc n)
  marked_window m n done ls fits k a t low high =
      let (v, b, l, f) = k.told (suc n) (omega arith) fits a in
      let x = keeps_next Fit rd td kr kt m n done fits t low high in
      let y = (x v).0 b in
      f t (omega arith) (omega arith) (λ u h c. (x u).1 c)
