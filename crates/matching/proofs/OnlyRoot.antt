-- The pass over the whole listing: a recipe with one root is found where that root is, and one of a single row where its label is. Assumes nothing.
use mathlib.Core.Path.{◌≡◌, refl, sym, ap, ◌∙◌}
use mathlib.Core.List.{List, [], ◌∷◌}
use mathlib.Core.Logic.{◌↔◌}
use Prim.Native.Nat.{ℕ, ◌+◌, ◌-◌, ◌≤◌, ◌<◌}
use native.Mathlib.Omega.{arith}
use native.Mathlib.Decide.{dec_le}
use lib.ListN.{length, set, length-set}
use lib.Seq.{get_or-set_same}
use Rattle.rows.specs.Rows.{at, Row, Outline, depth, descendants, last_row}
use Rattle.rows.specs.Forest.{Forest, size, forest_at, forest}
use Rattle.rows.specs.Embedding.{SameLabel}
use Rattle.rows.proofs.Depths.{inside_deeper}
use Rattle.rows.proofs.Windows.{stands_forest, size_forest}
use Rattle.matching.specs.Family.{right_sibling, left_leaf}
use Rattle.matching.specs.Asked.{chain, path_chains, Asked, Asks}
use Rattle.matching.specs.EarliestClose.{Holds}
use Rattle.matching.specs.Placing.{FirstIn}
use Rattle.matching.specs.Shape.{word}
use Rattle.matching.specs.Path.{Path}
use Rattle.matching.specs.Room.{recipe_of, room_words}
use Rattle.matching.specs.Engine.{Ready, Begins, Sought, Found, KnownAt, corner_of}
use Rattle.matching.proofs.Asking.{inner_row, asks_more, asks_new}
use Rattle.matching.proofs.Foreign.{leafless}
use Rattle.matching.proofs.Held.{held_iff}
use Rattle.matching.proofs.LeftLeaf.{leaf_within}
use Rattle.matching.proofs.Level.{Next, next, last, next_of}
use Rattle.matching.proofs.Passes.{level_lies}
use Rattle.matching.proofs.PathLaws.{told_same}
use Rattle.matching.proofs.Scan.{leaf_held}
use Rattle.matching.proofs.TreeJoins.{corner_of_fits}
use Rattle.matching.proofs.Width.{length_words}
use Rattle.matching.proofs.Written.{room_one, room_below}

-- row 1 has no right sibling: no other row is a root
only_row : (rd : List ℕ) → Outline rd → right_sibling rd 1 ≡ 0 → (w : ℕ) → Row rd w → depth rd w ≡ 0 → w ≡ 1
only_row rd k e w r d = go (next_of rd 1 (omega arith)) (dec_le w 1) (dec_le w (last_row rd 1))
  where
    go : Next rd 1 → Dec (w ≤ 1) → Dec (w ≤ last_row rd 1) → w ≡ 1
    go n (yes i) j = omega arith
    go n (no i) (yes j) = absurd (omega (arith, inside_deeper rd 1 w (omega arith) (omega arith) j))
    go (next s q f) (no i) (no j) = absurd (omega arith)
    go (last s f) (no i) (no j) = absurd (omega (arith, f (omega arith), k.first (omega arith)))

-- a listing row holds row 1: the corner of the whole listing is a root, ..
root_corner : (ws rl td tl : List ℕ) → Ready ws rl td tl → 1 ≤ length (recipe_of ws rl) → (t : ℕ) → Row td t → Holds (SameLabel rl tl) (recipe_of ws rl) td 1 t
    → Row (recipe_of ws rl) (corner_of ws rl tl (forest td) 1) × (depth (recipe_of ws rl) (corner_of ws rl tl (forest td) 1) ≡ 0)
root_corner ws rl td tl k one t s h =
    let rd = recipe_of ws rl in
    let r : Row rd 1 = (omega arith, one) in
    let w = corner_of ws rl tl (forest td) 1 in
    let n = size_forest td k.listing.outline in
    let i = held_iff (SameLabel rl tl) rd td k.outline k.listing.outline 1 0 (forest td) r (omega (arith, n)) (stands_forest td k.listing.outline) in
    let l = (level_lies ws rl td tl k 1 r (forest td) w refl).1 (i.0 (t, s.0, omega (arith, s, n), h)) in
    let o = corner_of_fits ws rl td tl k (forest td) 1 one in
    ((l.0, o), sym (k.shape.depths w o) ∙ l.1 ∙ k.shape.depths 1 one ∙ k.outline.first r)

-- .. and row 1, where that is the only root
only_corner : (ws rl td tl : List ℕ) (k : Ready ws rl td tl) → 1 ≤ length (recipe_of ws rl) → right_sibling (recipe_of ws rl) 1 ≡ 0
    → (t : ℕ) → FirstIn td (Holds (SameLabel rl tl) (recipe_of ws rl) td 1) 1 (length td) t → 1 ≡ corner_of ws rl tl (forest td) 1
only_corner ws rl td tl k one e t f =
    let c = root_corner ws rl td tl k one t (f.low, f.high) f.holds in
    sym (only_row (recipe_of ws rl) k.outline e _ c.0 c.1)

-- a recipe of one row: the corner of the whole listing is that row where a listing row has its label, else empty
pub one_row_corner : (ws rl td tl : List ℕ) → Ready ws rl td tl → length rl ≡ 1 → (r : ℕ) → r ≤ 1 → (1 ≤ r) ↔ ((y : ℕ) × Row tl y × (at rl 1 ≡ at tl y))
    → r ≡ corner_of ws rl tl (forest td) 1
one_row_corner ws rl td tl k one r few found = go (dec_le 1 r)
  where
    rd : List ℕ
    rd = recipe_of ws rl

    rows : length rd ≡ 1
    rows = length_words ws 1 (length rl) ∙ one

    leaf : left_leaf rd 1 ≡ 1
    leaf = omega (arith, leaf_within rd 1 (omega (arith, rows)), rows)

    go : Dec (1 ≤ r) → r ≡ corner_of ws rl tl (forest td) 1
    go (yes o) =
        let f = found.0 o in
        let s : Row td f.0 = omega (arith, f.1, k.names) in
        let h = (leaf_held (SameLabel rl tl) rd td k.outline k.listing.outline 1 (omega (arith, rows)) leaf f.0 s).1 f.2 in
        omega (arith, (root_corner ws rl td tl k (omega (arith, rows)) f.0 s h).0, rows)
    go (no o) =
        let n = size_forest td k.listing.outline in
        let e = leafless ws rl td tl k 1 0 (forest td) (stands_forest td k.listing.outline)
        (λ y a b q. o (found.1 (y, omega (arith, n, k.names), ap (at rl) (sym leaf) ∙ q))) in
        omega (arith, e)

-- row 1 alone is asked, and l rows are sought: that row, where it is the only root and has rows below it, or none
module _ {ws rl td tl : List ℕ} (k : Ready ws rl td tl) (one : 1 ≤ length (recipe_of ws rl)) {l : ℕ} (rows : (l ≤ 1) × ((1 ≤ l) ↔ ((word 1 ws 1 ≡ 0) × (word 2 ws 1 ≡ 1 → ⊥))))
    (old : List ℕ) {xs us : List ℕ} {n : ℕ} (noted : xs ≡ set old 256 l) (asks : (length xs ≡ 513) × Asks xs 0 1 us n) where
  abbrev rd : List ℕ
  rd = recipe_of ws rl

  few : length old ≡ 513
  few = omega (arith, length-set old 256 l, ap length noted, asks.0)

  path : path_chains us ≡ l
  path = asks.1.path ∙ ap path_chains noted ∙ get_or-set_same old 256 l 0 (omega (arith, few))

  fresh : (j : ℕ) → j < 0 → chain xs j ≡ 1 → ⊥
  fresh j h e = omega arith

  first : chain us 0 ≡ 1
  first = asks_new xs us 1 0 n asks.1 (omega arith) fresh

  row : Row rd 1
  row = (omega arith, one)

  chains : Asked (length rd) us 1
  chains =
      rw (asks_more xs us 1 0 n asks.1 (omega arith) fresh) at
      (asks.1.asked (length rd) k.shape.few one (record { size = asks.0; rows = λ i h. absurd (omega arith); places = λ i h. absurd (omega arith) }))

  inner : 1 ≤ l → 1 ≤ descendants rd 1
  inner o = inner_row rd k.outline 1 row (λ e. (rows.1.0 o).1 (k.shape.leaves 1 one ∙ e))

  only : 1 ≤ l → right_sibling rd 1 ≡ 0
  only o = sym (k.shape.rights 1 one) ∙ (rows.1.0 o).0

  first_path : (cs : List ℕ) → chain cs 0 ≡ 1 → Path rd cs l
  first_path cs c =
      record {
        rows = λ i h. let e : i ≡ 0 = omega (arith, rows.0) in rw (e, c) row;
        inner = λ i h. let e : i ≡ 0 = omega (arith, rows.0) in rw (e, c) (inner (omega arith));
        down = λ i h. absurd (omega (arith, rows.0));
      }

  pub first_sought : Sought ws rl us 1 (path_chains us)
  first_sought = rw path record { some = omega arith; few = rows.0; path = first_path us first }

  pub first_begins : {rs : List ℕ} → length rs ≡ room_words → (d : ℕ) → Begins ws rl us rs 0 1 d
  first_begins w d =
      record { chains = chains; words = w; room = room_below (length rd) 1 (64 - d) 64 room_words (omega arith) (room_one (length rd) 1 k.shape.few (omega arith)) }

  -- what the pass says of the whole listing
  module _ (some : 0 < length td) where
    abbrev top : Forest ℕ
    top = forest_at td 0 (depth td 1)

    all : top ≡ forest td
    all = ap (forest_at td 0) (k.listing.outline.first (omega arith))

    pub first_found : {ls vs ss ms : List ℕ} {t : ℕ} → Found ws rl td tl us ls (path_chains us) 0 (0 + size top) t vs ss ms
        → (1 ≡ corner_of ws rl tl (forest td) 1) × KnownAt ws rl td tl ms t
    first_found {ls} {vs} {ss} {ms} {t} f =
        let g = rw path at f in
        let last : 0 + size top ≡ length td = omega (arith, ap size all, size_forest td k.listing.outline) in
        let h = rw (first, last) at g.found in
        let e : l ≡ 1 = omega (arith, g.some, rows.0) in (
          only_corner ws rl td tl k one (only g.some) t h,
          record {
            first = h;
            path = rw e at (first_path (1 ∷ []) refl);
            told = λ y a b.
                rw e at
                (told_same (SameLabel rl tl) rd td (1 ∷ []) us l ms y (λ j n. let z : j ≡ 0 = omega (arith, rows.0) in rw z first) (g.logged.told y a b));
          },
        )
