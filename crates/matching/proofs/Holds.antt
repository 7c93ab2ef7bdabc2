-- A listing row holds a recipe row with all its descendants just where the two fit and the forest below the one lies in the
-- forest below the other; and that can be decided. Assumes nothing.
use mathlib.Core.Path.{◌≡◌, ap}
use mathlib.Core.Bool.{true, false}
use mathlib.Core.List.{List}
use mathlib.Core.Logic.{◌↔◌}
use Prim.Native.Nat.{ℕ, zero, suc, ◌≤◌, ◌<◌}
use native.Mathlib.Omega.{arith}
use native.Mathlib.Decide.{dec_le}
use lib.Dec.{leb}
use borrow.Author.Tests.{le-leb, lt-leb}
use Rattle.rows.specs.Rows.{Row, Outline, descendants, last_row, Ancestor, LeftOf}
use Rattle.rows.specs.Forest.{Forest, nil, cons, size, beside, below}
use Rattle.rows.specs.Embedding.{Embeds, LiesIn, done, pair, skip}
use Rattle.rows.proofs.Depths.{last_fits}
use Rattle.rows.proofs.Order.{window, behind_window}
use Rattle.rows.proofs.Flat.{size_beside}
use Rattle.rows.specs.Stands.{Among}
use Rattle.rows.proofs.Windows.{window_below, size_below}
use Rattle.rows.proofs.Inclusion.{embeds_part, embeds_from, Maps, maps_iff}
use Rattle.matching.specs.EarliestClose.{Tree, Holds}

-- whether a forest lies in another can be decided where fit can
module _ {A B : Type 0} (Fit : A → B → Type 0) (dec : (a : A) (b : B) → Dec (Fit a b)) where
  lies_cases : {C : Type 0} {a : A} {b : B} {p q : Forest A} {f g : Forest B} → (Fit a b → LiesIn Fit p f → LiesIn Fit q g → C)
      → (LiesIn Fit (cons a p q) (beside f g) → C) → LiesIn Fit (cons a p q) (cons b f g) → C
  lies_cases x y (pair h i j) = x h i j
  lies_cases x y (skip l) = y l

  dec_first : {a : A} {b : B} {p q : Forest A} {f g : Forest B} → Dec (Fit a b) → Dec (LiesIn Fit p f) → Dec (LiesIn Fit q g)
      → Dec (LiesIn Fit (cons a p q) (beside f g)) → Dec (LiesIn Fit (cons a p q) (cons b f g))
  dec_first x y z (yes s) = yes (skip s)
  dec_first (yes h) (yes i) (yes j) (no s) = yes (pair h i j)
  dec_first (no h) y z (no s) = no (lies_cases (λ i j l. h i) s)
  dec_first (yes h) (no i) z (no s) = no (lies_cases (λ h j l. i j) s)
  dec_first (yes h) (yes i) (no j) (no s) = no (lies_cases (λ h i l. j l) s)

  dec_within : (n : ℕ) (p : Forest A) (f : Forest B) → size f < n → Dec (LiesIn Fit p f)
  dec_within zero p f h = absurd (omega arith)
  dec_within (suc n) nil f h = yes done
  dec_within (suc n) (cons a p q) nil h = no (elim [ ])
  dec_within (suc n) (cons a p q) (cons b f g) h =
      dec_first (dec a b) (dec_within n p f (omega arith)) (dec_within n q g (omega arith))
      (dec_within n (cons a p q) (beside f g) (omega (arith, size_beside f g)))

  pub dec_lies : (p : Forest A) (f : Forest B) → Dec (LiesIn Fit p f)
  dec_lies p f = dec_within (suc (size f)) p f (omega arith)

module _ (Fit : ℕ → ℕ → Type 0) (rd td : List ℕ) (kr : Outline rd) (kt : Outline td) where
  -- an embedding of a tree sends the rest below the image of its root
  pub rest_below : (v : ℕ) → Row rd v → (e : ℕ → ℕ) → Embeds Fit rd td (Tree rd v) e → (u : ℕ) → v < u → u ≤ last_row rd v → (e v < e u) × (e u ≤ last_row td (e v))
  rest_below v r e k u o h =
      let i : Tree rd v v = omega arith in
      let j : Tree rd v u = omega arith in
      let a = (window rd kr v u r (omega (arith, last_fits rd v r))).1 (o, h) in
      (window td kt (e v) (e u) (k.lands v i) (k.lands u j)).0 ((k.ancestor v u i j).0 a)

  module _ (v t : ℕ) (r : Row rd v) (s : Row td t) where
    n : size (below rd v) ≡ descendants rd v
    n = size_below rd kr v r

    m : size (below td t) ≡ descendants td t
    m = size_below td kt t s

    maps : ((e : ℕ → ℕ) × Maps Fit rd td (below rd v) v (below td t) t e) ↔ LiesIn Fit (below rd v) (below td t)
    maps =
        maps_iff Fit rd td kr kt (below rd v) v (below td t) t (omega (arith, n, last_fits rd v r)) (omega (arith, m, last_fits td t s))
        (window_below rd kr v r).stands (window_below td kt t s).stands

    to_below : Holds Fit rd td v t → Fit v t × LiesIn Fit (below rd v) (below td t)
    to_below h = (
      rw h.1 at (h.2.fits v (omega arith)),
      maps.0 (
        h.0,
        record {
          embeds = embeds_part Fit rd td (Tree rd v) (Among v (size (below rd v))) h.0 (λ u a. omega (arith, n)) h.2;
          inside = λ u a. omega (arith, n, m, h.1, ap (last_row td) h.1, rest_below v r h.0 h.2 u a.0 (omega (arith, n)));
        },
      ),
    )

    -- v goes to t, and the rest as d says
    module _ (fit : Fit v t) (d : ℕ → ℕ) (k : Maps Fit rd td (below rd v) v (below td t) t d) where
      abbrev image : ℕ → ℕ
      image u = elim (leb u v) [ true ↦ t | false ↦ d u ]

      data Place (u : ℕ) : Type 0 where
        top : u ≡ v → image u ≡ t → Place u
        inn : Among v (size (below rd v)) u → image u ≡ d u → Row td (d u) → Ancestor td t (d u) → Place u

      place : (u : ℕ) → Tree rd v u → Place u
      place u h = go (dec_le u v)
        where
          go : Dec (u ≤ v) → Place u
          go (yes i) = top (omega arith) (rw (le-leb u v i, image))
          go (no i) =
              let a : Among v (size (below rd v)) u = omega (arith, n) in
              let l = k.embeds.lands u a in
              inn a (rw (lt-leb u v (omega arith), image)) l ((window td kt t (d u) s l).1 (omega (arith, m, k.inside u a)))

      lands : (u : ℕ) → Place u → Row td (image u)
      lands u (top i j) = rw j s
      lands u (inn a j l c) = rw j l

      fits : (u : ℕ) → Place u → Fit u (image u)
      fits u (top i j) = rw (j, i) fit
      fits u (inn a j l c) = rw j (k.embeds.fits u a)

      up : (u w : ℕ) → Place u → Place w → Ancestor rd u w → Ancestor td (image u) (image w)
      up u w (top i j) (top x y) c = absurd (omega arith)
      up u w (top i j) (inn a y l b) c = rw (j, y) b
      up u w (inn a j l b) (top x y) c = absurd (omega arith)
      up u w (inn a j l b) (inn x y q z) c = rw (j, y) ((k.embeds.ancestor u w a x).0 c)

      on : (u w : ℕ) → Row rd u → Row rd w → Place u → Place w → LeftOf rd u w → LeftOf td (image u) (image w)
      on u w f g (top i j) (top x y) c = absurd (omega arith)
      on u w f g (top i j) (inn a y l b) c = absurd (omega (arith, n, ap (last_row rd) i, (behind_window rd kr u w f g).0 c))
      on u w f g (inn a j l b) (top x y) c = absurd (omega arith)
      on u w f g (inn a j l b) (inn x y q z) c = rw (j, y) ((k.embeds.left u w a x).0 c)

      row_of : (u : ℕ) → Tree rd v u → Row rd u
      row_of u h = omega (arith, last_fits rd v r)

      from_below : Holds Fit rd td v t
      from_below = (
        image,
        rw (le-leb v v (omega arith), image),
        embeds_from Fit rd td kr (Tree rd v) image row_of (λ u w f g. up u w (place u f) (place w g))
            (λ u w f g. on u w (row_of u f) (row_of w g) (place u f) (place w g)) (λ u h. lands u (place u h)) (λ u h. fits u (place u h)),
      )

    pub holds_iff : Holds Fit rd td v t ↔ (Fit v t × LiesIn Fit (below rd v) (below td t))
    holds_iff = (to_below, λ h. let k = maps.1 h.1 in from_below h.0 k.0 k.1)

    pub dec_holds : ((v t : ℕ) → Dec (Fit v t)) → Dec (Holds Fit rd td v t)
    dec_holds dec = go (dec v t) (dec_lies Fit dec (below rd v) (below td t))
      where
        go : Dec (Fit v t) → Dec (LiesIn Fit (below rd v) (below td t)) → Dec (Holds Fit rd td v t)
        go (yes a) (yes b) = yes (holds_iff.1 (a, b))
        go (yes a) (no b) = no (λ h. b (holds_iff.0 h).1)
        go (no a) d = no (λ h. a (holds_iff.0 h).0)
