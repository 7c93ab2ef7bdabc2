-- A tree of the listing whose rows all bear one label: on a chain whose left-most leaf has it, and the row which that leaf needs next has not, its
-- corner is that leaf, as its first row's alone is. Assumes nothing.
use mathlib.Core.Path.{◌≡◌, refl, sym, ap, ap₂, ◌∙◌}
use mathlib.Core.List.{List}
use mathlib.Core.Logic.{◌⊎◌, inl, inr, ⊎_elim}
use Prim.Native.Nat.{ℕ, zero, suc, ◌+◌, ◌-◌, ◌≤◌, ◌<◌}
use native.Mathlib.Omega.{arith}
use native.Mathlib.Decide.{dec_le, ℕ_discrete}
use lib.ListN.{length, get_or}
use borrow.Author.Tests.{eq-eqb, ne_eqb}
use Rattle.std.specs.Prelude.{Bool, Option, Some, None, true}
use Rattle.rows.specs.Rows.{at, Row, depth, descendants, last_row}
use Rattle.rows.specs.Forest.{Forest, nil, cons, size, below}
use Rattle.rows.specs.Stands.{Stands}
use Rattle.rows.specs.Embedding.{SameLabel}
use Rattle.rows.proofs.Depths.{last_fits}
use Rattle.rows.proofs.Windows.{size_below}
use Rattle.matching.specs.Family.{parent, right_sibling, left_leaf}
use Rattle.matching.specs.CornerRow.{Chained, close_row, join_row, corners}
use Rattle.matching.specs.Shape.{word, Shape}
use Rattle.matching.specs.Asked.{chain, Asked, Extends}
use Rattle.matching.specs.Path.{Within}
use Rattle.matching.specs.Room.{recipe_of, named, same_label, alone, joined_alone, Written}
use Rattle.matching.specs.Engine.{Ready, LeafAsked, next_row, PairAsked, TreeEnd, OneLabel, tree_at, corner_of}
use Rattle.matching.proofs.AskedLaws.{after_asked}
use Rattle.matching.proofs.Asking.{leaf_bare}
use Rattle.matching.proofs.Chains.{leaf_least}
use Rattle.matching.proofs.CornerRow.{corners_zero, close_new, close_empty, close_top, close_wide, close_other, join_empty, join_kept}
use Rattle.matching.proofs.CornerWords.{parent_labelled}
use Rattle.matching.proofs.Foreign.{leafless}
use Rattle.matching.proofs.Held.{held_iff, stands_tree}
use Rattle.matching.proofs.LeftLeaf.{leaf_within, leaf_deep}
use Rattle.matching.proofs.Level.{right_fits, right_deep}
use Rattle.matching.proofs.Passes.{chain_low, level_lies}
use Rattle.matching.proofs.TreeJoins.{corner_of_fits, alone_none}
use Rattle.matching.proofs.Width.{length_words}

-- where the test tells that a row bears the label of the first, the rows up to the end that it finds all do
pub one_label : (T : ℕ → Bool → Type 0) (td tl : List ℕ) (first : ℕ) (r : Option ℕ) → TreeEnd T td first r
    → ((y : ℕ) → suc first < y → y ≤ last_row td (suc first) → T (y - 1) true → at tl y ≡ at tl (suc first)) → OneLabel td tl first r
one_label T td tl first (Some r) e same = record { last = e.last; same = λ y a b. go y a b (dec_le y (suc first)) }
  where
    go : (y : ℕ) → first < y → y ≤ r → Dec (y ≤ suc first) → at tl y ≡ at tl (suc first)
    go y a b (yes i) = let d : y ≡ suc first = omega arith in ap (at tl) d
    go y a b (no i) = same y (omega arith) (omega (arith, e.last)) (e.tested y (omega arith) b)
one_label T td tl first None e same = tt

-- of the chains before place i: P holds of one of them where `joins` says so; Q holds of none of those
pub record Gained (P Q : ℕ → Type 0) (i : ℕ) (joins : Bool) : Type 0 where
  pub some : joins ≡ true → (j : ℕ) × (j < i) × P j
  pub all : (j : ℕ) → j < i → P j → joins ≡ true
  pub none : (j : ℕ) → j < i → P j → Q j → ⊥

-- one chain more
module _ {P Q : ℕ → Type 0} {i : ℕ} {joins : Bool} (g : Gained P Q i joins) where
  before_or : (R : ℕ → Type 0) → ((j : ℕ) → j < i → R j) → R i → (j : ℕ) → j < suc i → R j
  before_or R all here j l = go (dec_le i j)
    where
      go : Dec (i ≤ j) → R j
      go (yes o) = let e : j ≡ i = omega arith in rw e here
      go (no o) = all j (omega arith)

  pub gained_more : P i → (Q i → ⊥) → Gained P Q (suc i) true
  gained_more p n = record { some = λ o. (i, omega arith, p); all = λ j l q. refl; none = before_or (λ (j : ℕ). P j → Q j → ⊥) g.none (λ q. n) }

  pub gained_same : (P i → ⊥) → Gained P Q (suc i) joins
  gained_same n =
      record {
        some = λ o. let (j, l, p) = g.some o in (j, omega arith, p);
        all = before_or (λ (j : ℕ). P j → joins ≡ true) g.all (λ p. absurd (n p));
        none = before_or (λ (j : ℕ). P j → Q j → ⊥) g.none (λ p. absurd (n p));
      }

-- nothing joins
join_nothing : (rd : List ℕ) (a : ℕ) → join_row rd a 0 0 ≡ a
join_nothing rd zero = join_empty rd 0 0 0 refl
join_nothing rd (suc a) = join_kept rd (suc a) 0 0 (omega arith) (λ o. absurd (omega arith)) (λ o. absurd (omega arith))

-- a row by its words: what it needs next is its right sibling where there is one, else its parent
pub next_right : (ws : List ℕ) (v y : ℕ) → word 1 ws v ≡ y → 1 ≤ y → next_row ws v ≡ y
next_right ws v y e o = rw (ne_eqb (word 1 ws v) 0 (λ z. omega arith), next_row) e

pub next_up : (ws : List ℕ) (v : ℕ) → word 1 ws v ≡ 0 → next_row ws v ≡ word 0 ws v
next_up ws v e = rw (eq-eqb (word 1 ws v) 0 e, next_row) refl

-- that row has a label
pub next_labelled : (ws rl : List ℕ) → Shape (recipe_of ws rl) ws → (v : ℕ) → v ≤ length (recipe_of ws rl) → next_row ws v ≤ length rl
next_labelled ws rl k v h = go (ℕ_discrete (word 1 ws v) 0)
  where
    go : Dec (word 1 ws v ≡ 0) → next_row ws v ≤ length rl
    go (yes e) = omega (arith, next_up ws v e, parent_labelled ws rl k v h)
    go (no e) =
        omega (arith, next_right ws v (word 1 ws v) refl (omega arith), k.rights v h, right_fits (recipe_of ws rl) v, length_words ws 1 (length rl))

module _ (ws rl td tl : List ℕ) (k : Ready ws rl td tl) where
  abbrev rd : List ℕ
  rd = recipe_of ws rl

  abbrev test : ℕ → ℕ → Bool
  test = same_label rl tl

  abbrev Fit : ℕ → ℕ → Type 0
  Fit = SameLabel rl tl

  -- rows that all bear the label a
  abbrev All : ℕ → ℕ → ℕ → Type 0
  All a z n = (y : ℕ) → z < y → y ≤ z + n → at tl y ≡ a

  -- a forest of such rows has no corner on the level of a row with another label, ..
  low : (a y z : ℕ) (f : Forest ℕ) → (1 ≤ y → at rl y ≡ a → ⊥) → y ≤ length rd → Stands td z f → z + size f ≤ length td → All a z (size f)
      → 1 ≤ corners test rd f y → depth rd (corners test rd f y) ≡ depth rd y → ⊥
  low a zero z f other h s l same o d = omega (arith, corners_zero test rd f)
  low a (suc j) z f other h s l same o d =
      let r : Row rd (suc j) = (omega arith, h) in
      let w = corners test rd f (suc j) in
      let level : (1 ≤ w) × (word 3 ws w ≡ word 3 ws (suc j)) = (o, k.shape.depths w (corner_of_fits ws rl td tl k f (suc j) h) ∙ d ∙ sym (k.shape.depths (suc j) h)) in
      let (t, b, c, (e, x, i)) = (held_iff Fit rd td k.outline k.listing.outline (suc j) z f r l s).1 ((level_lies ws rl td tl k (suc j) r f w refl).0 level) in
      other (omega arith) (i.fits (suc j) (omega arith, omega arith) ∙ ap (at tl) x ∙ same t b c)

  module _ (x a : ℕ) (r : Row rd x) (new : at rl (left_leaf rd x) ≡ a) (stuck : at rl (next_row ws (left_leaf rd x)) ≡ a → ⊥) where
    abbrev leaf : ℕ
    leaf = left_leaf rd x

    leaf_row : Row rd (left_leaf rd x)
    leaf_row = (omega (arith, leaf_least rd x), leaf_within rd x r.1)

    -- what the leaf needs next has another label
    right_other : 1 ≤ right_sibling rd leaf → at rl (right_sibling rd leaf) ≡ a → ⊥
    right_other o e = stuck (ap (at rl) (next_right ws leaf (right_sibling rd leaf) (k.shape.rights leaf leaf_row.1) o) ∙ e)

    up_other : right_sibling rd leaf ≡ 0 → at rl (parent rd leaf) ≡ a → ⊥
    up_other z e = stuck (ap (at rl) (next_up ws leaf (k.shape.rights leaf leaf_row.1 ∙ z) ∙ k.shape.parents leaf leaf_row.1) ∙ e)

    -- a row closes over nothing or the leaf, and the corner is the leaf
    close_leaf : (t w : ℕ) → at tl t ≡ a → (w ≡ 0) ⊎ (w ≡ leaf) → close_row test rd x t w ≡ leaf
    close_leaf t w e (inl z) = close_new test rd x t w z (eq-eqb (at rl leaf) (at tl t) (new ∙ sym e))
    close_leaf t w e (inr z) = rw z (go (ℕ_discrete (depth rd leaf) (depth rd x)) (ℕ_discrete (right_sibling rd leaf) 0))
      where
        go : Dec (depth rd leaf ≡ depth rd x) → Dec (right_sibling rd leaf ≡ 0) → close_row test rd x t leaf ≡ leaf
        go (yes d) n = close_top test rd x t leaf leaf_row.0 d
        go (no d) (no n) = close_wide test rd x t leaf leaf_row.0 d n
        go (no d) (yes n) = close_other test rd x t leaf leaf_row.0 d n (ne_eqb (at rl (parent rd leaf)) (at tl t) (λ q. up_other n (q ∙ e)))

    -- .. and so a tree of such rows, with others beside it, has the leaf as its corner
    abbrev Leafed : Forest ℕ → Type 0
    Leafed f = (corners test rd f x ≡ 0) ⊎ (corners test rd f x ≡ leaf)

    tree_leaf : (z t : ℕ) (f g : Forest ℕ) → Stands td z (cons t f g) → z + size (cons t f g) ≤ length td → All a z (size (cons t f g)) → Leafed f → Leafed g
        → corners test rd (cons t f g) x ≡ leaf
    tree_leaf z t f g s l same p q =
        rw (close_leaf t (corners test rd f x) (ap (at tl) s.0 ∙ same (suc z) (omega arith) (omega arith)) p)
        (join_kept rd leaf (corners test rd g x) (corners test rd g (right_sibling rd leaf)) leaf_row.0
        (λ o. ⊎_elim (λ z. absurd (omega arith)) (λ e. omega (arith, ap (depth rd) e)) q)
        (λ o d. low a (right_sibling rd leaf) (suc (z + size f)) g right_other (right_fits rd leaf) s.4 (omega arith) rest o (d ∙ sym (level o))))
      where
        rest : All a (suc (z + size f)) (size g)
        rest y b c = same y (omega arith) (omega arith)

        level : 1 ≤ corners test rd g (right_sibling rd leaf) → depth rd (right_sibling rd leaf) ≡ depth rd leaf
        level o = go (right_sibling rd leaf) refl o
          where
            go : (y : ℕ) → right_sibling rd leaf ≡ y → 1 ≤ corners test rd g y → depth rd (right_sibling rd leaf) ≡ depth rd leaf
            go zero e o = absurd (omega (arith, corners_zero test rd g))
            go (suc j) e o = right_deep rd leaf leaf_row (omega arith)

    forest_leaf : (z : ℕ) (f : Forest ℕ) → Stands td z f → z + size f ≤ length td → All a z (size f) → Leafed f
    forest_leaf z nil s l same = inl refl
    forest_leaf z (cons t f g) s l same =
        inr (tree_leaf z t f g s l same (forest_leaf (suc z) f s.3 (omega arith) (λ y b c. same y (omega arith) (omega arith)))
        (forest_leaf (suc (z + size f)) g s.4 (omega arith) (λ y b c. same y (omega arith) (omega arith))))

  -- a row that has rows below it stands above its left-most leaf
  inner_deep : (v : ℕ) → Row rd v → 1 ≤ descendants rd v → depth rd v < depth rd (left_leaf rd v)
  inner_deep v r n = go (dec_le (left_leaf rd v) v)
    where
      go : Dec (left_leaf rd v ≤ v) → depth rd v < depth rd (left_leaf rd v)
      go (yes o) = let e : left_leaf rd v ≡ v = omega (arith, leaf_least rd v) in absurd (omega (arith, leaf_bare rd k.outline v r e))
      go (no o) = leaf_deep rd v (omega arith)

  -- a tree of such rows, on a chain where the label is not that of the left-most leaf and of what that needs next
  module _ (first : ℕ) (h : first < length td) (same : (y : ℕ) → first < y → y ≤ last_row td (suc first) → at tl y ≡ at tl (suc first)) where
    abbrev name : ℕ
    name = at tl (suc first)

    ends : first + suc (size (below td (suc first)) + 0) ≡ last_row td (suc first)
    ends = omega (arith, size_below td k.listing.outline (suc first) (omega arith))

    stands : Stands td first (tree_at td first)
    stands = stands_tree td k.listing.outline first h

    fits : first + suc (size (below td (suc first)) + 0) ≤ length td
    fits = omega (arith, ends, last_fits td (suc first) (omega arith))

    all : All name first (suc (size (below td (suc first)) + 0))
    all y b c = same y b (omega (arith, ends))

    pub plain_corner : (x : ℕ) → x ≤ length rd → (at rl (left_leaf rd x) ≡ name → at rl (next_row ws (left_leaf rd x)) ≡ name → ⊥)
        → alone ws rl name x ≡ corner_of ws rl tl (tree_at td first) x
    plain_corner zero l o = alone_none ws rl name
    plain_corner (suc j) l o = go (ℕ_discrete (at rl (left_leaf rd (suc j))) name)
      where
        go : Dec (at rl (left_leaf rd (suc j)) ≡ name) → alone ws rl name (suc j) ≡ corner_of ws rl tl (tree_at td first) (suc j)
        go (yes e) =
            close_new (named rl) rd (suc j) name 0 refl (eq-eqb (at rl (left_leaf rd (suc j))) name e)
            ∙ sym (tree_leaf (suc j) name (omega arith, l) e (o e) first (suc first) (below td (suc first)) nil stands fits all
            (forest_leaf (suc j) name (omega arith, l) e (o e) (suc first) (below td (suc first)) stands.3 (omega (arith, fits)) (λ y b c. all y (omega arith) (omega arith))) (inl refl))
        go (no e) =
            close_empty (named rl) rd (suc j) name 0 refl (ne_eqb (at rl (left_leaf rd (suc j))) name e)
            ∙ sym (leafless ws rl td tl k (suc j) first (tree_at td first) stands (λ y b c d. e (d ∙ all y b c)))

    -- the chains asked are such
    module _ (us : List ℕ) (z : ℕ) (chains : Asked (length rd) us z) (lone : PairAsked ws rl us z name → ⊥) where
      pub chain_alone : (i : ℕ) → i < z → alone ws rl name (chain us i) ≡ corner_of ws rl tl (tree_at td first) (chain us i)
      chain_alone i l =
          let o = chains.rows i l in
          let e = k.shape.leaves (chain us i) o.1 in
          plain_corner (chain us i) o.1 (λ b c. lone (i, l, ap (at rl) e ∙ b, ap (λ (v : ℕ). at rl (next_row ws v)) e ∙ c))

      -- it includes no row that stands on one of them and has rows below it
      pub plain_without : (i v : ℕ) → i < z → Row rd v → 1 ≤ descendants rd v → Chained rd (chain us i) v → Within Fit rd td v (suc first) → ⊥
      plain_without i v l r n c w = go (ℕ_discrete (at rl (left_leaf rd (chain us i))) name)
        where
          x : ℕ
          x = chain us i

          deep : depth rd v < depth rd (left_leaf rd x)
          deep = omega (arith, inner_deep v r n, ap (depth rd) c.1)

          met : (1 ≤ corner_of ws rl tl (tree_at td first) x) × (depth rd (corner_of ws rl tl (tree_at td first) x) ≤ depth rd v)
          met = chain_low ws rl td tl k x (chains.rows i l) first h (corner_of ws rl tl (tree_at td first) x) refl v r c w

          go : Dec (at rl (left_leaf rd x) ≡ name) → ⊥
          go (yes e) = let q = sym (chain_alone i l) ∙ close_new (named rl) rd x name 0 refl (eq-eqb (at rl (left_leaf rd x)) name e) in omega (arith, met.1, deep, ap (depth rd) q)
          go (no e) = let q = sym (chain_alone i l) ∙ close_empty (named rl) rd x name 0 refl (ne_eqb (at rl (left_leaf rd x)) name e) in omega (arith, met.0, q)

  -- no left-most leaf of the chains asked has the label: a row with it alone has no corner on them, and joins with no change
  pub plain_idle : (asked rs us : List ℕ) (base q z a : ℕ) → Extends ws asked rs base q q us z → Asked (length rd) us z → (LeafAsked ws rl us z a → ⊥)
      → Written rs base q (joined_alone ws rl a us rs base) rs
  plain_idle asked rs us base q z a x chains idle =
      record {
        size = refl;
        new = λ i l.
            sym (ap₂ (join_row rd (get_or rs (base + i) 0)) (empty i (omega (arith, x.least))) (after_asked x (λ (v : ℕ). alone ws rl a v ≡ 0) empty (alone_none ws rl a) i l)
            ∙ join_nothing rd (get_or rs (base + i) 0));
        before = λ j l. refl;
        after = λ j l. refl;
      }
    where
      empty : (i : ℕ) → i < z → alone ws rl a (chain us i) ≡ 0
      empty i l =
          close_empty (named rl) rd (chain us i) a 0 refl
          (ne_eqb (at rl (left_leaf rd (chain us i))) a (λ d. idle (i, l, ap (at rl) (k.shape.leaves (chain us i) (chains.rows i l).1) ∙ d)))
