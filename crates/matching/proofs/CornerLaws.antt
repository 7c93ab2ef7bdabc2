-- The corner of document 01: it is the pair of place and parent of the row `corner_at`, there is only one, and it is the whole
-- recipe just where the listing includes the recipe. Assumes nothing.
use mathlib.Core.Path.{◌≡◌, refl, sym, ap, subst, ◌∙◌}
use mathlib.Core.Bool.{Bool, true}
use mathlib.Core.Logic.{◌↔◌}
use mathlib.Core.List.{List}
use Prim.Native.Nat.{ℕ, zero, suc, ◌+◌, ◌≤◌, ◌<◌}
use native.Mathlib.Omega.{arith}
use native.Mathlib.Decide.{dec_lt, dec_le}
use lib.Dec.{eqb}
use lib.ListN.{length}
use borrow.Author.Tests.{eq-eqb, ne_eqb}
use Rattle.rows.specs.Rows.{Row, depth, Outline, descendants, last_row, tally}
use Rattle.rows.specs.Forest.{Forest, nil, cons, size, forest_at, forest, below}
use Rattle.rows.specs.Embedding.{Included, LiesIn}
use Rattle.rows.proofs.Depths.{inside_deeper, last_fits}
use Rattle.rows.proofs.Tests.{tally_true, tally_none}
use Rattle.rows.specs.Stands.{Stands}
use Rattle.rows.proofs.Windows.{window_below, size_below, stands_forest, size_forest}
use Rattle.rows.proofs.Inclusion.{maps_iff, included_iff}
use Rattle.matching.specs.Family.{parent, right_sibling, left_leaf}
use Rattle.matching.specs.Corner.{corner_end, HasSubtrees, CornerEmbeds, CornerIs, WholeCorner}
use Rattle.matching.specs.CornerRow.{from_row, place, corner_at, width_at, row_at}
use Rattle.matching.proofs.Lies.{roots}
use Rattle.matching.proofs.Cut.{root_at, first_trees, spine, levels, first_all, some_level, spine_suc}
use Rattle.matching.proofs.Best.{Best}
use Rattle.matching.proofs.Level.{place_first, parent_root, Next, next, last, next_of, from_step, leaf_level, level_of, parent_level, place_level}
use Rattle.matching.proofs.Standing.{corner_sibling, corner_deep, last_full, full_last}
use Rattle.matching.proofs.CornerRow.{BestRow, corner_best}

-- at most one pair is the corner
pub corner_one : (Fit : ℕ → ℕ → Type 0) (rd td : List ℕ) (i v j u : ℕ) → CornerIs Fit rd td i v → CornerIs Fit rd td j u → (i ≡ j) × (v ≡ u)
corner_one Fit rd td i v j u a b =
    let x = half i v j u a b (dec_le 1 i) in
    let y = half j u i v b a (dec_le 1 j) in
    (omega (arith, x.1 (omega arith), y.1 (omega arith)), omega arith)
  where
    half : (i v j u : ℕ) → CornerIs Fit rd td i v → CornerIs Fit rd td j u → Dec (1 ≤ i) → (u ≤ v) × (v ≡ u → i ≤ j)
    half i v j u a b (yes o) = b.best i v o a.path a.has a.embeds
    half i v j u a b (no o) = (omega (arith, a.empty (omega arith), b.path), λ e. omega arith)

-- fewer first trees have fewer rows
size_first : (i : ℕ) (s : Forest ℕ) → i < roots s → size (first_trees i s) < size s
size_first i nil h = absurd (omega arith)
size_first zero (cons a f g) h = omega arith
size_first (suc i) (cons a f g) h = omega (arith, size_first i g (omega arith))

size_most : (i : ℕ) (s : Forest ℕ) → size (first_trees i s) ≤ size s
size_most zero s = omega arith
size_most (suc i) nil = omega arith
size_most (suc i) (cons a f g) = omega (arith, size_most i g)

stands_first : (ds : List ℕ) (i z : ℕ) (s : Forest ℕ) → Stands ds z s → Stands ds z (first_trees i s)
stands_first ds zero z s k = tt
stands_first ds (suc i) z nil k = tt
stands_first ds (suc i) z (cons a f g) k = (k.0, k.1, k.2, k.3, stands_first ds i (suc (z + size f)) g k.4)

-- the first i subtrees end where the first i trees below the row do
end_shift : (ds : List ℕ) (z i : ℕ) → corner_end ds z (suc i) ≡ corner_end ds (last_row ds (suc z)) i
end_shift ds z zero = refl
end_shift ds z (suc i) = ap (λ (y : ℕ). last_row ds (suc y)) (end_shift ds z i)

end_size : (ds : List ℕ) (i z : ℕ) (s : Forest ℕ) → Stands ds z s → i ≤ roots s → corner_end ds z i ≡ z + size (first_trees i s)
end_size ds zero z s k h = omega arith
end_size ds (suc i) z nil k h = absurd (omega arith)
end_size ds (suc i) z (cons a f g) k h =
    let e : last_row ds (suc z) ≡ suc (z + size f) = omega (arith, k.2) in
    omega (arith, end_shift ds z i, ap (λ (y : ℕ). corner_end ds y i) e, end_size ds i (suc (z + size f)) g k.4 (omega arith))

-- the forest from row 1 is the whole, whose trees are counted by the rows of depth 0
from_first : (ds : List ℕ) → Outline ds → 1 ≤ length ds → from_row ds 1 ≡ forest ds
from_first ds k one = ap (forest_at ds 0) (k.first (omega arith))

roots_tally : (ds : List ℕ) → Outline ds → 1 ≤ length ds → tally (λ u. eqb (depth ds u) 0) (length ds) ≡ roots (forest ds)
roots_tally ds k one = go (forest ds) 0 (omega arith) (k.first (omega arith)) (from_first ds k one) ∙ omega arith
  where
    all : ℕ → ℕ
    all n = tally (λ u. eqb (depth ds u) 0) n

    go : (g : Forest ℕ) (z : ℕ) → Row ds (suc z) → depth ds (suc z) ≡ 0 → from_row ds (suc z) ≡ g → all (length ds) ≡ all z + roots g
    go nil z r d e = let n : ◌≡◌ {A = ℕ} 0 1 = cc (from_step ds (suc z) r) in absurd (omega arith)
    go (cons a f g) z r d e = on (next_of ds (suc z) r) (go g)
      where
        past : all (last_row ds (suc z)) ≡ suc (all z)
        past =
            tally_none (λ u. eqb (depth ds u) 0) (suc z) (descendants ds (suc z))
            (λ u a b. ne_eqb (depth ds u) 0 (omega (arith, inside_deeper ds (suc z) u (omega arith) a b)))
            ∙ tally_true (λ u. eqb (depth ds u) 0) z (eq-eqb (depth ds (suc z)) 0 d)

        rest : g ≡ from_row ds (right_sibling ds (suc z))
        rest = cc (from_step ds (suc z) r)

        on : Next ds (suc z) → ((z : ℕ) → Row ds (suc z) → depth ds (suc z) ≡ 0 → from_row ds (suc z) ≡ g → all (length ds) ≡ all z + roots g)
            → all (length ds) ≡ all z + suc (roots g)
        on (next s q c) ih = omega (arith, ih (last_row ds (suc z)) q (c ∙ d) (ap (from_row ds) (sym s) ∙ sym rest), past)
        on (last s h) ih = end (dec_lt (last_row ds (suc z)) (length ds))
          where
            end : Dec (last_row ds (suc z) < length ds) → all (length ds) ≡ all z + suc (roots g)
            end (yes o) = absurd (omega (arith, h o))
            end (no o) =
                let l : length ds ≡ last_row ds (suc z) = omega (arith, last_fits ds (suc z) r) in
                omega (arith, ap all l, past, ap roots rest, ap (λ (x : ℕ). roots (from_row ds x)) s)

module _ (Fit : ℕ → ℕ → Type 0) (rd td : List ℕ) (kr : Outline rd) (one : 1 ≤ length rd) (kt : Outline td) where
  abbrev G : Forest ℕ
  G = forest rd

  first : from_row rd 1 ≡ G
  first = from_first rd kr one

  row_one : Row rd 1
  row_one = omega arith

  last_level : left_leaf rd 1 ≡ levels G
  last_level = omega (arith, leaf_level rd kr 1 row_one, ap levels first)

  -- a row of the left-most path, or 0: its children are the level of its number, and they stand behind it
  record Path (v : ℕ) : Type 0 where
    under : spine v G ≡ below rd v
    stands : Stands rd v (below rd v)
    ends : last_row rd v ≡ v + size (below rd v)
    fits : last_row rd v ≤ length rd

  path_of : (v : ℕ) → v ≤ levels G → Path v
  path_of zero h = record { under = refl; stands = stands_forest rd kr; ends = omega (arith, size_forest rd kr); fits = omega arith }
  path_of (suc u) h =
      let l = level_of rd kr u 1 row_one (omega (arith, ap levels first)) in
      let e : 1 + u ≡ suc u = omega arith in
      let r : Row rd (suc u) = rw e at l.row in
      record {
        under = spine_suc u G ∙ ap (spine 1) (ap (spine u) (sym first) ∙ l.here ∙ ap (from_row rd) e ∙ from_step rd (suc u) r);
        stands = (window_below rd kr (suc u) r).stands;
        ends = omega (arith, size_below rd kr (suc u) r);
        fits = last_fits rd (suc u) r;
      }

  module _ (v : ℕ) (p : Path v) where
    -- v has i subtrees or more just where i trees stand below it
    has_of : (i : ℕ) → i ≤ roots (below rd v) → HasSubtrees rd v i
    has_of i l j o = omega (arith, p.ends, end_size rd j v (below rd v) p.stands (omega arith), size_first j (below rd v) (omega arith))

    has_to : (i : ℕ) → HasSubtrees rd v i → i ≤ roots (below rd v)
    has_to i h = go (dec_le i (roots (below rd v)))
      where
        go : Dec (i ≤ roots (below rd v)) → i ≤ roots (below rd v)
        go (yes o) = o
        go (no o) =
            absurd
            (omega (
              arith,
              p.ends,
              h (roots (below rd v)) (omega arith),
              end_size rd (roots (below rd v)) v (below rd v) p.stands (omega arith),
              ap size (first_all (below rd v)),
            ))

    -- its first i subtrees have an embedding just where the first i trees lie in the listing's forest
    embeds_iff : (i : ℕ) → i ≤ roots (below rd v) → CornerEmbeds Fit rd td i v ↔ LiesIn Fit (first_trees i (below rd v)) (forest td)
    embeds_iff i l =
        let n = size_forest td kt in
        let m = maps_iff Fit rd td kr kt (first_trees i (below rd v)) v (forest td) 0 (omega (arith, p.ends, p.fits, size_most i (below rd v))) (omega arith)
        (stands_first rd i v (below rd v) p.stands) (stands_forest td kt) in
        rw (end_size rd i v (below rd v) p.stands l) (
          λ k. m.0 (k.0, record { embeds = k.1; inside = λ u h. omega (arith, k.1.lands u h) }),
          λ i. let k = m.1 i in (k.0, k.1.embeds),
        )

  -- so the best corner of the recipe's forest is the corner of document 01
  corner_from : (i v : ℕ) → Best Fit (forest td) G i v → CornerIs Fit rd td i v
  corner_from i v b =
      let p = path_of v b.low in
      let l : i ≤ roots (below rd v) = rw p.under at b.has in
      record {
        path = omega (arith, b.low, last_level);
        has = has_of v p i l;
        empty = λ z. b.empty z ∙ sym last_level;
        embeds = (embeds_iff v p i l).1 (rw p.under at b.lies);
        best = λ j x o h s c.
            let q = path_of x (omega (arith, last_level)) in
            let m = has_to x q j s in
            b.most j x o (rw q.under m) (rw q.under ((embeds_iff x q j m).0 c));
      }

  -- the corner is the whole recipe just where its row is 0 and its width is the number of roots
  pub whole_width : (i v : ℕ) → CornerIs Fit rd td i v → WholeCorner rd i v ↔ ((v ≡ 0) × (i ≡ tally (λ u. eqb (depth rd u) 0) (length rd)))
  whole_width i v c = (λ h. (h.0, to h.0 h.1 (dec_lt i (roots G))), λ h. (h.0, of h.1))
    where
      p : Path 0
      p = path_of 0 (omega arith)

      to : v ≡ 0 → corner_end rd 0 i ≡ length rd → Dec (i < roots G) → i ≡ tally (λ u. eqb (depth rd u) 0) (length rd)
      to z e (yes o) = absurd (omega (arith, end_size rd i 0 G p.stands (omega arith), size_first i G o, size_forest rd kr))
      to z e (no o) = omega (arith, has_to 0 p i (rw z at c.has), roots_tally rd kr one)

      of : i ≡ tally (λ u. eqb (depth rd u) 0) (length rd) → corner_end rd 0 i ≡ length rd
      of e =
          let n : i ≡ roots G = e ∙ roots_tally rd kr one in
          rw n (omega (arith, end_size rd (roots G) 0 G p.stands (omega arith), ap size (first_all G), size_forest rd kr))

  -- which is just where the listing includes the recipe
  pub whole_iff : (i v : ℕ) → CornerIs Fit rd td i v → WholeCorner rd i v ↔ Included Fit rd td
  whole_iff i v c = (λ h. included ((whole_width i v c).0 h), λ h. (whole_width i v c).1 (whole ((included_iff Fit rd td kr kt).0 h)))
    where
      p : Path 0
      p = path_of 0 (omega arith)

      included : (v ≡ 0) × (i ≡ tally (λ u. eqb (depth rd u) 0) (length rd)) → Included Fit rd td
      included h =
          let n : i ≡ roots G = h.1 ∙ roots_tally rd kr one in
          (included_iff Fit rd td kr kt).1 (rw (n, first_all) at ((embeds_iff 0 p i (omega arith)).0 (rw h.0 at c.embeds)))

      whole : LiesIn Fit G (forest td) → (v ≡ 0) × (i ≡ tally (λ u. eqb (depth rd u) 0) (length rd))
      whole l =
          let some : 1 ≤ roots G = omega (arith, ap roots first, ap roots (from_step rd 1 row_one)) in
          let e = (embeds_iff 0 p (roots G) (omega arith)).1 (rw (first_all G) l) in
          let q = c.best (roots G) 0 some (omega arith) (has_of 0 p (roots G) (omega arith)) e in
          let z : v ≡ 0 = omega arith in
          (z, omega (arith, q.1 (sym z), has_to 0 p i (rw z at c.has), roots_tally rd kr one))

  module _ (test : ℕ → ℕ → Bool) (right : (v t : ℕ) → (test v t ≡ true) ↔ Fit v t) where
    abbrev w : ℕ
    w = corner_at test rd (forest td) 1

    found : BestRow Fit (forest td) (from_row rd 1) w
    found = corner_best Fit test right rd kr (forest td) 1 one

    -- row 1 + v stands below row v, first
    top : (v : ℕ) → v < levels (from_row rd 1) → (parent rd (1 + v) ≡ v) × (place rd (1 + v) ≡ 1)
    top zero h = (parent_root rd 1 (kr.first row_one), place_first rd)
    top (suc u) h = (omega (arith, parent_level rd kr 1 u row_one h), place_level rd kr 1 u row_one h)

    -- the row `corner_at`: the corner is its place and its parent, and the empty corner where it is 0
    pub corner_is : 1 ≤ w → CornerIs Fit rd td (place rd w) (parent rd w)
    corner_is o = go found.width found.level found.best found.row
      where
        go : (i v : ℕ) → Best Fit (forest td) (from_row rd 1) i v → w ≡ root_at i (spine v (from_row rd 1)) → CornerIs Fit rd td (place rd w) (parent rd w)
        go zero v b e = absurd (omega arith)
        go (suc i) v b e =
            let s = corner_sibling rd kr 1 v i w row_one b.has e in
            let t = top v (some_level v (from_row rd 1) (omega (arith, b.has))) in
            let n : place rd w ≡ suc i = omega (arith, s.nth, t.1) in
            rw (n, s.up, t.0) (corner_from (suc i) v (rw first at b))

    pub corner_none : w ≡ 0 → CornerIs Fit rd td 0 (left_leaf rd 1)
    corner_none z = go found.width found.level found.best found.row
      where
        go : (i v : ℕ) → Best Fit (forest td) (from_row rd 1) i v → w ≡ root_at i (spine v (from_row rd 1)) → CornerIs Fit rd td 0 (left_leaf rd 1)
        go zero v b e =
            let l : left_leaf rd 1 ≡ v = omega (arith, b.empty refl, last_level, ap levels first) in rw l (corner_from 0 v (rw first at b))
        go (suc i) v b e = absurd (omega (arith, (corner_sibling rd kr 1 v i w row_one b.has e).row))

    -- both as the pair that the row's number gives
    pub corner_at_lem : (x : ℕ) → x ≡ w → CornerIs Fit rd td (width_at rd x) (row_at rd x)
    corner_at_lem zero e = corner_none (sym e)
    corner_at_lem (suc z) e = subst (λ (x : ℕ). CornerIs Fit rd td (place rd x) (parent rd x)) (sym e) (corner_is (omega (arith, e)))

    -- the listing includes the recipe just where that row is a root with no right sibling
    pub included_row : Included Fit rd td ↔ ((1 ≤ w) × (depth rd w ≡ 0) × (right_sibling rd w ≡ 0))
    included_row = go found.width found.level found.best found.row
      where
        go : (i v : ℕ) → Best Fit (forest td) (from_row rd 1) i v → w ≡ root_at i (spine v (from_row rd 1))
            → Included Fit rd td ↔ ((1 ≤ w) × (depth rd w ≡ 0) × (right_sibling rd w ≡ 0))
        go i v b e = (λ h. to i b e (all.0 (iff.1 h)), λ h. iff.0 (all.1 (of i b e h)))
          where
            c : CornerIs Fit rd td i v
            c = corner_from i v (rw first at b)

            iff : WholeCorner rd i v ↔ Included Fit rd td
            iff = whole_iff i v c

            all : WholeCorner rd i v ↔ ((v ≡ 0) × (i ≡ tally (λ u. eqb (depth rd u) 0) (length rd)))
            all = whole_width i v c

            count : tally (λ u. eqb (depth rd u) 0) (length rd) ≡ roots (from_row rd 1)
            count = roots_tally rd kr one ∙ sym (ap roots first)

            to : (i : ℕ) → Best Fit (forest td) (from_row rd 1) i v → w ≡ root_at i (spine v (from_row rd 1))
                → (v ≡ 0) × (i ≡ tally (λ u. eqb (depth rd u) 0) (length rd)) → (1 ≤ w) × (depth rd w ≡ 0) × (right_sibling rd w ≡ 0)
            to zero b e h = absurd (omega (arith, count, ap roots (from_step rd 1 row_one)))
            to (suc i) b e h = (
              (corner_sibling rd kr 1 v i w row_one b.has e).row.0,
              omega (arith, corner_deep rd kr 1 v i w row_one b.has e, kr.first row_one),
              full_last rd kr 1 v i w row_one b.has e (omega (arith, count, ap (λ (y : ℕ). roots (spine y (from_row rd 1))) h.0)),
            )

            of : (i : ℕ) → Best Fit (forest td) (from_row rd 1) i v → w ≡ root_at i (spine v (from_row rd 1))
                → (1 ≤ w) × (depth rd w ≡ 0) × (right_sibling rd w ≡ 0) → (v ≡ 0) × (i ≡ tally (λ u. eqb (depth rd u) 0) (length rd))
            of zero b e h = absurd (omega arith)
            of (suc i) b e h =
                let z : v ≡ 0 = omega (arith, corner_deep rd kr 1 v i w row_one b.has e) in
                (z, omega (arith, last_full rd kr 1 v i w row_one b.has e h.2, count, ap (λ (y : ℕ). roots (spine y (from_row rd 1))) z))
