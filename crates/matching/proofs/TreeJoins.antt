-- A tree of the listing joins the corners kept: from the corners of the rows below it, or as a row with nothing below it. Assumes nothing.
use mathlib.Core.Path.{◌≡◌, refl, sym, ap, ap₂, ◌∙◌}
use mathlib.Core.Bool.{Bool}
use mathlib.Core.List.{List}
use Prim.Native.Nat.{ℕ, zero, suc, ◌+◌, ◌-◌, ◌≤◌, ◌<◌, min}
use native.Mathlib.Omega.{arith}
use native.Mathlib.Decide.{ℕ_discrete}
use lib.ListN.{length, get_or}
use Rattle.rows.specs.Rows.{at, Row, depth, Outline, descendants, last_row}
use Rattle.rows.specs.Forest.{Forest, nil, cons, size, forest_at, below}
use Rattle.rows.proofs.Depths.{inside_deeper, last_fits}
use Rattle.rows.proofs.Windows.{size_below}
use Rattle.matching.specs.Family.{right_sibling}
use Rattle.matching.specs.CornerRow.{close_row, join_row, OnChain}
use Rattle.matching.specs.Shape.{word}
use Rattle.matching.specs.Asked.{chain, noted, path_chains, Asked, Keep, Member, after, Extends}
use Rattle.matching.specs.Room.{room_words, room_for, Written, named, same_label, recipe_of, closed, following, joined, alone, joined_alone, Joins}
use Rattle.matching.specs.Engine.{Ready, Begins, Sought, Ends, tree_at, corner_of, with_tree}
use Rattle.matching.proofs.AskedLaws.{asked_few, member_kept}
use Rattle.matching.proofs.CornerRow.{corner_close, corner_fits}
use Rattle.matching.proofs.CornerWords.{alone_case}
use Rattle.matching.proofs.Level.{right_fits}
use Rattle.matching.proofs.Written.{room_more, following_none, following_some}

-- of a row that has rows below it
module _ (td : List ℕ) (o : Outline td) (i : ℕ) (h : i < length td) (more : 1 ≤ descendants td (suc i)) where
  pub more_rows : suc i < length td
  more_rows = omega (arith, last_fits td (suc i) (omega arith))

  first_child : depth td (suc (suc i)) ≡ suc (depth td (suc i))
  first_child =
      omega (
        arith,
        inside_deeper td (suc i) (suc (suc i)) (omega arith) (omega arith) (omega arith),
        o.step (suc i) (omega arith) (omega (arith, more_rows)),
      )

  pub below_forest : forest_at td (suc i) (depth td (suc (suc i))) ≡ below td (suc i)
  below_forest = ap (forest_at td (suc i)) first_child

  pub below_last : suc i + size (forest_at td (suc i) (depth td (suc (suc i)))) ≡ last_row td (suc i)
  below_last = ap (λ (n : ℕ). suc i + n) (ap size below_forest ∙ size_below td o (suc i) (omega arith))

-- on row 0, which is no chain, a row alone has no corner
pub alone_none : (ws rl : List ℕ) (a : ℕ) → alone ws rl a 0 ≡ 0
alone_none ws rl a = alone_case ws rl a (λ b. b ≡ 0) 0 refl refl

module _ (ws rl td tl : List ℕ) (k : Ready ws rl td tl) where
  abbrev test : ℕ → ℕ → Bool
  test = same_label rl tl

  -- the right sibling by its word
  pub right_word : (a : ℕ) → a ≤ length (recipe_of ws rl) → word 1 ws a ≡ right_sibling (recipe_of ws rl) a
  right_word a h = k.shape.rights a h

  pub corner_of_fits : (f : Forest ℕ) (x : ℕ) → x ≤ length (recipe_of ws rl) → corner_of ws rl tl f x ≤ length (recipe_of ws rl)
  corner_of_fits f x h = corner_fits test (recipe_of ws rl) k.outline f x h

  -- a row closes over the rows below it
  pub close_of : (t x : ℕ) (f : Forest ℕ) → Row (recipe_of ws rl) x
      → close_row (named rl) (recipe_of ws rl) x (at tl t) (corner_of ws rl tl f x) ≡ corner_of ws rl tl (cons t f nil) x
  unfolding close_row
  close_of t x f r = sym (corner_close test (recipe_of ws rl) k.outline x t f r)

  -- and a row over rows that have no corners
  alone_of : (t x : ℕ) (f : Forest ℕ) → x ≤ length (recipe_of ws rl) → corner_of ws rl tl f x ≡ 0 → alone ws rl (at tl t) x ≡ corner_of ws rl tl (cons t f nil) x
  alone_of t zero f h e = alone_none ws rl (at tl t)
  alone_of t (suc z) f h e = ap (close_row (named rl) (recipe_of ws rl) (suc z) (at tl t)) (sym e) ∙ close_of t (suc z) f (omega arith, h)

-- a level's chains are few, and there is room for their corners
module _ {ws rl td tl : List ℕ} (k : Ready ws rl td tl) {asked rs : List ℕ} {base q first : ℕ} (b : Begins ws rl asked rs base q (depth td (suc first)))
    (h : first < length td) where
  pub few : q ≤ length (recipe_of ws rl)
  few = asked_few (length (recipe_of ws rl)) asked q b.chains

  pub level_room : base + q ≤ room_words
  level_room =
      let e : 64 - depth td (suc first) ≡ suc (63 - depth td (suc first)) = omega (arith, k.listing.shallow (suc first) (omega arith)) in
      omega (arith, b.room, ap (room_for (length (recipe_of ws rl)) q) e)

-- the pass over the tree whose first row stands behind `first` rows begins
pub record Enters (ws rl td tl asked rs : List ℕ) (base q l first : ℕ) : Type 0 where
  pub ready : Ready ws rl td tl
  pub begins : Begins ws rl asked rs base q (depth td (suc first))
  pub inside : first < length td
  pub sought : Sought ws rl asked q l
  pub fits : (i : ℕ) → i < q → OnChain (recipe_of ws rl) (chain asked i) (get_or rs (base + i) 0)

pub enters : {ws rl td tl asked rs : List ℕ} {base q l first : ℕ} → Ready ws rl td tl → Begins ws rl asked rs base q (depth td (suc first)) → first < length td
    → Sought ws rl asked q l → ((i : ℕ) → i < q → OnChain (recipe_of ws rl) (chain asked i) (get_or rs (base + i) 0)) → Enters ws rl td tl asked rs base q l first
enters k b h s fits = record { ready = k; begins = b; inside = h; sought = s; fits = fits }

module _ {ws rl td tl asked rs : List ℕ} {base q l first : ℕ} (p : Enters ws rl td tl asked rs base q l first) where
  abbrev rd : List ℕ
  rd = recipe_of ws rl

  abbrev name : ℕ
  name = at tl (suc first)

  row : Row td (suc first)
  row = omega (arith, p.inside)

  -- what extending needs of the corners
  pub extend_fits : (i : ℕ) → i < q → (get_or rs (base + i) 0 ≤ 256) × (after ws rs (base + i) ≤ 256)
  extend_fits i l =
      omega (arith, (p.fits i l).row, p.ready.shape.few, right_word ws rl td tl p.ready (get_or rs (base + i) 0) (p.fits i l).row, right_fits rd (get_or rs (base + i) 0))

  -- a tree that gives the chains asked, and those after their corners, what its first row alone would
  module _ {us : List ℕ} (chains : Asked (length rd) us q) (keep : Keep asked us q) (path : path_chains us ≡ path_chains asked)
      (here : (i : ℕ) → i < q → alone ws rl name (chain asked i) ≡ corner_of ws rl tl (tree_at td first) (chain asked i))
      (beside : (i : ℕ) → i < q → alone ws rl name (after ws rs (base + i)) ≡ corner_of ws rl tl (tree_at td first) (after ws rs (base + i))) where
    pub alone_ends : {ss : List ℕ} → Written rs base q (joined_alone ws rl name us rs base) ss
        → Ends ws rl asked rs base q (λ i. with_tree ws rl td tl first (chain asked i) (get_or rs (base + i) 0)) us ss
    alone_ends {ss} w =
        record {
          chains = chains;
          keep = keep;
          words = w.size ∙ p.begins.words;
          before = w.before;
          corners = λ i l.
              w.new i l
              ∙ ap₂ (join_row rd (get_or rs (base + i) 0)) (ap (alone ws rl name) (keep i l) ∙ here i l)
              (beside i l ∙ ap (corner_of ws rl tl (tree_at td first)) (right_word ws rl td tl p.ready (get_or rs (base + i) 0) (p.fits i l).row));
          path = path;
        }

  -- such is a row with nothing below it that has a corner
  pub leaf_ends : ((x : ℕ) → x ≤ length rd → corner_of ws rl tl (below td (suc first)) x ≡ 0) → {ss : List ℕ}
      → Written rs base q (joined_alone ws rl name asked rs base) ss
      → Ends ws rl asked rs base q (λ i. with_tree ws rl td tl first (chain asked i) (get_or rs (base + i) 0)) asked ss
  leaf_ends empty =
      alone_ends p.begins.chains (λ i l. refl) refl (λ i l. alone_tree (chain asked i) (p.begins.chains.rows i l).1)
      (λ i l. alone_tree _ (omega (arith, right_word ws rl td tl p.ready (get_or rs (base + i) 0) (p.fits i l).row, right_fits rd (get_or rs (base + i) 0))))
    where
      alone_tree : (x : ℕ) → x ≤ length rd → alone ws rl name x ≡ corner_of ws rl tl (tree_at td first) x
      alone_tree x l = alone_of ws rl td tl p.ready (suc first) x (below td (suc first)) l (empty x l)

  -- a row with rows below it
  module _ (more : 1 ≤ descendants td (suc first)) where
    deep : depth td (suc (suc first)) ≡ suc (depth td (suc first))
    deep = first_child td p.ready.listing.outline first p.inside more

    tree_below : forest_at td (suc first) (depth td (suc (suc first))) ≡ below td (suc first)
    tree_below = below_forest td p.ready.listing.outline first p.inside more

    rows_more : suc first < length td
    rows_more = more_rows td p.ready.listing.outline first p.inside more

    module _ {us : List ℕ} {z : ℕ} (x : Extends ws asked rs base q q us z) where
      pub chains_more : Asked (length rd) us z
      chains_more =
          x.asked (length rd) p.ready.shape.few
          (λ i l. omega (arith, right_word ws rl td tl p.ready (get_or rs (base + i) 0) (p.fits i l).row, right_fits rd (get_or rs (base + i) 0))) p.begins.chains

      pub z_few : z ≤ length rd
      z_few = asked_few (length rd) us z chains_more

      -- the rows below begin on the next level
      pub begins_below : Begins ws rl us rs (base + q) z (depth td (suc (suc first)))
      begins_below =
          let low = p.ready.listing.shallow (suc (suc first)) (omega (arith, rows_more)) in
          let e : 64 - depth td (suc first) ≡ suc (64 - depth td (suc (suc first))) = omega (arith, deep) in
          record {
            chains = chains_more;
            words = p.begins.words;
            room = omega (
              arith,
              p.begins.room,
              ap (room_for (length rd) q) e,
              room_more (length rd) z (min (length rd) (q + q)) (64 - depth td (suc (suc first))) (omega (arith, x.most, z_few)),
            );
          }

      pub z_room : base + q + z ≤ room_words
      z_room =
          let e : 64 - depth td (suc (suc first)) ≡ suc (63 - depth td (suc (suc first))) =
          omega (arith, p.ready.listing.shallow (suc (suc first)) (omega (arith, rows_more))) in
          omega (arith, begins_below.room, ap (room_for (length rd) z) e)

      abbrev below_corner : ℕ → ℕ
      below_corner i = corner_of ws rl tl (forest_at td (suc first) (depth td (suc (suc first)))) (chain us i)

      -- the rows below have their corners, and then the row closes
      module _ {vs rs₁ : List ℕ} (y : Ends ws rl us rs (base + q) z below_corner vs rs₁) where
        pub close_fits : (i : ℕ) → i < z → (chain vs i ≤ length rd) × (get_or rs₁ (base + q + i) 0 ≤ length rd)
        close_fits i l = (
          (y.chains.rows i l).1,
          omega (arith, y.corners i l, corner_of_fits ws rl td tl p.ready (forest_at td (suc first) (depth td (suc (suc first)))) (chain us i) (chains_more.rows i l).1),
        )

        module _ {rs₂ : List ℕ} (w : Written rs₁ (base + q) z (closed ws rl name vs rs₁ (base + q)) rs₂) where
          pub tree_corner : (i : ℕ) → i < z → get_or rs₂ (base + q + i) 0 ≡ corner_of ws rl tl (tree_at td first) (chain vs i)
          tree_corner i l =
              w.new i l
              ∙ ap (close_row (named rl) rd (chain vs i) name)
              (y.corners i l ∙ ap (corner_of ws rl tl (forest_at td (suc first) (depth td (suc (suc first))))) (sym (y.keep i l))
              ∙ ap (λ (f : Forest ℕ). corner_of ws rl tl f (chain vs i)) tree_below)
              ∙ close_of ws rl td tl p.ready (suc first) (chain vs i) (below td (suc first)) (y.chains.rows i l)

          left : (i : ℕ) → i < q → get_or rs₂ (base + i) 0 ≡ get_or rs (base + i) 0
          left i l = w.before (base + i) (omega arith) ∙ y.before (base + i) (omega arith)

          -- the chain after each corner is asked
          after_member : (i : ℕ) → i < q → 1 ≤ word 1 ws (get_or rs (base + i) 0) → Member vs z (word 1 ws (get_or rs (base + i) 0))
          after_member i l o = member_kept (length rd) us vs z z (word 1 ws (get_or rs (base + i) 0)) (omega arith) y.keep y.chains (x.member i l o)

          next : (i : ℕ) → i < q
              → following ws vs rs₂ (base + q) (get_or rs (base + i) 0) ≡ corner_of ws rl tl (tree_at td first) (right_sibling rd (get_or rs (base + i) 0))
          next i l = go (ℕ_discrete (word 1 ws (get_or rs (base + i) 0)) 0)
            where
              go : Dec (word 1 ws (get_or rs (base + i) 0) ≡ 0)
                  → following ws vs rs₂ (base + q) (get_or rs (base + i) 0) ≡ corner_of ws rl tl (tree_at td first) (right_sibling rd (get_or rs (base + i) 0))
              go (yes e) =
                  following_none ws vs rs₂ (base + q) (get_or rs (base + i) 0) _ refl e
                  ∙ sym (ap (corner_of ws rl tl (tree_at td first)) (sym (right_word ws rl td tl p.ready (get_or rs (base + i) 0) (p.fits i l).row) ∙ e))
              go (no e) =
                  let o = after_member i l (omega arith) in
                  following_some ws vs rs₂ (base + q) (get_or rs (base + i) 0) _ refl e
                  ∙ tree_corner (noted vs (word 1 ws (get_or rs (base + i) 0))) o.0
                  ∙ ap (corner_of ws rl tl (tree_at td first)) (o.1 ∙ right_word ws rl td tl p.ready (get_or rs (base + i) 0) (p.fits i l).row)

          pub tree_joins : (i : ℕ) → i < q → Joins ws rl vs rs₂ base q z i
          tree_joins i l =
              let e = left i l in
              let r = right_word ws rl td tl p.ready (get_or rs (base + i) 0) (p.fits i l).row in
              let t = tree_corner i (omega (arith, x.least)) in
              record {
                left = rw e (p.fits i l).row;
                tree = omega (arith, t, corner_of_fits ws rl td tl p.ready (tree_at td first) (chain vs i) (y.chains.rows i (omega (arith, x.least))).1);
                right = rw e (omega (arith, r, right_fits rd (get_or rs (base + i) 0), p.ready.shape.few));
                place = rw e (λ o. (after_member i l o).0);
                next = rw e (omega (arith, next i l, corner_of_fits ws rl td tl p.ready (tree_at td first) (right_sibling rd (get_or rs (base + i) 0)) (right_fits rd (get_or rs (base + i) 0))));
              }

          pub tree_ends : {ss : List ℕ} → Written rs₂ base q (joined ws rl vs rs₂ base q) ss
              → Ends ws rl asked rs base q (λ i. with_tree ws rl td tl first (chain asked i) (get_or rs (base + i) 0)) vs ss
          tree_ends {ss} j =
              record {
                chains = record {
                  size = y.chains.size;
                  rows = λ i l. y.chains.rows i (omega (arith, x.least));
                  places = λ i l. y.chains.places i (omega (arith, x.least));
                };
                keep = λ i l. y.keep i (omega (arith, x.least)) ∙ x.keep i l;
                words = j.size ∙ w.size ∙ y.words;
                before = λ i l. j.before i l ∙ w.before i (omega arith) ∙ y.before i (omega arith);
                corners = λ i l.
                    let n : i < z = omega (arith, x.least) in
                    let e = left i l in
                    j.new i l
                    ∙ ap (λ (a : ℕ). join_row rd a (get_or rs₂ (base + q + i) 0) (following ws vs rs₂ (base + q) a)) e
                    ∙ ap₂ (join_row rd (get_or rs (base + i) 0))
                    (tree_corner i n ∙ ap (corner_of ws rl tl (tree_at td first)) (y.keep i n ∙ x.keep i l)) (next i l);
                path = y.path ∙ x.path;
              }
