-- Closing a row and joining a tree by the words of the recipe's shape. Assumes nothing.
use mathlib.Core.Path.{◌≡◌, refl, sym, ap, ◌∙◌}
use mathlib.Core.Bool.{Bool, true, false}
use mathlib.Core.List.{List}
use Prim.Native.Nat.{ℕ, ◌≤◌, ◌<◌}
use native.Mathlib.Omega.{arith}
use native.Mathlib.Decide.{dec_lt, dec_le, ℕ_discrete}
use lib.ListN.{length}
use borrow.Author.Tests.{eq-eqb, ne_eqb}
use Rattle.rows.specs.Rows.{at, depth}
use Rattle.matching.specs.Family.{parent, right_sibling, left_leaf}
use Rattle.matching.specs.CornerRow.{close_row, join_row, OnChain}
use Rattle.matching.specs.Shape.{word, Shape}
use Rattle.matching.specs.Room.{recipe_of, named, alone}
use Rattle.matching.proofs.Chains.{leaf_least}
use Rattle.matching.proofs.LeftLeaf.{leaf_within, leaf_deep}
use Rattle.matching.proofs.Level.{right_fits, right_deep}
use Rattle.matching.proofs.Siblings.{parent_within}
use Rattle.matching.proofs.Width.{length_words}
use Rattle.matching.proofs.CornerRow.{close_new, close_empty, close_top, close_wide, close_raise, close_other, join_empty, join_higher, join_wider, join_kept}

-- a test of the row v, which has the label l
module _ (rl : List ℕ) (v l name : ℕ) (e : l ≡ at rl v) where
  named_same : l ≡ name → named rl v name ≡ true
  named_same h = eq-eqb (at rl v) name (sym e ∙ h)

  named_other : (l ≡ name → ⊥) → named rl v name ≡ false
  named_other h = ne_eqb (at rl v) name (λ q. h (e ∙ q))

module _ {rd ws : List ℕ} (rl : List ℕ) (name : ℕ) (k : Shape rd ws) {x w : ℕ} (hx : x ≤ length rd) (hw : w ≤ length rd) where
  abbrev Closed : ℕ
  Closed = close_row (named rl) rd x name w

  module _ {v l : ℕ} (ev : v ≡ word 2 ws x) (el : l ≡ at rl v) (none : w ≡ 0) where
    leaf : v ≡ left_leaf rd x
    leaf = ev ∙ k.leaves x hx

    pub words_new : l ≡ name → v ≡ Closed
    words_new h = leaf ∙ sym (close_new (named rl) rd x name w none (rw leaf at (named_same rl v l name el h)))

    pub words_empty : (l ≡ name → ⊥) → 0 ≡ Closed
    words_empty h = sym (close_empty (named rl) rd x name w none (rw leaf at (named_other rl v l name el h)))

  module _ {d e : ℕ} (ed : d ≡ word 3 ws w) (ee : e ≡ word 3 ws x) (some : w ≡ 0 → ⊥) where
    one : 1 ≤ w
    one = omega arith

    deep : d ≡ depth rd w
    deep = ed ∙ k.depths w hw

    from : e ≡ depth rd x
    from = ee ∙ k.depths x hx

    pub words_top : d ≡ e → w ≡ Closed
    words_top h = sym (close_top (named rl) rd x name w one (sym deep ∙ h ∙ from))

    module _ (low : d ≡ e → ⊥) {s : ℕ} (es : s ≡ word 1 ws w) where
      lower : depth rd w ≡ depth rd x → ⊥
      lower h = low (deep ∙ h ∙ sym from)

      right : s ≡ right_sibling rd w
      right = es ∙ k.rights w hw

      pub words_wide : (s ≡ 0 → ⊥) → w ≡ Closed
      words_wide h = sym (close_wide (named rl) rd x name w one lower (λ q. h (right ∙ q)))

      module _ (last : s ≡ 0) {v l : ℕ} (ev : v ≡ word 0 ws w) (el : l ≡ at rl v) where
        up : v ≡ parent rd w
        up = ev ∙ k.parents w hw

        pub words_raise : l ≡ name → v ≡ Closed
        words_raise h = up ∙ sym (close_raise (named rl) rd x name w one lower (sym right ∙ last) (rw up at (named_same rl v l name el h)))

        pub words_other : (l ≡ name → ⊥) → w ≡ Closed
        words_other h = sym (close_other (named rl) rd x name w one lower (sym right ∙ last) (rw up at (named_other rl v l name el h)))

module _ {rd ws : List ℕ} (k : Shape rd ws) {a b w : ℕ} (ha : a ≤ length rd) (hb : b ≤ length rd) (hw : w ≤ length rd) where
  pub words_none : a ≡ 0 → b ≡ join_row rd a b w
  words_none h = sym (join_empty rd a b w h)

  module _ (some : a ≡ 0 → ⊥) {d : ℕ} (ed : d ≡ word 3 ws a) where
    here : d ≡ depth rd a
    here = ed ∙ k.depths a ha

    pub words_higher : (1 ≤ b) × (word 3 ws b < d) → b ≡ join_row rd a b w
    words_higher h = sym (join_higher rd a b w (omega arith) h.0 (omega (arith, k.depths b hb, here)))

    module _ (low : (1 ≤ b) × (word 3 ws b < d) → ⊥) where
      under : 1 ≤ b → depth rd a ≤ depth rd b
      under o = go (dec_lt (word 3 ws b) d)
        where
          go : Dec (word 3 ws b < d) → depth rd a ≤ depth rd b
          go (yes h) = absurd (low (o, h))
          go (no h) = omega (arith, k.depths b hb, here)

      pub words_wider : (1 ≤ w) × (word 3 ws w ≡ d) → w ≡ join_row rd a b w
      words_wider h = sym (join_wider rd a b w (omega arith) under h.0 (omega (arith, k.depths w hw, here)))

      pub words_kept : ((1 ≤ w) × (word 3 ws w ≡ d) → ⊥) → a ≡ join_row rd a b w
      words_kept h = sym (join_kept rd a b w (omega arith) under (λ o q. h (o, k.depths w hw ∙ q ∙ sym here)))

-- a row alone has the left-most leaf as its corner, or none
module _ (ws rl : List ℕ) (name : ℕ) where
  abbrev rd : List ℕ
  rd = recipe_of ws rl

  pub alone_case : (P : ℕ → Type 0) (x : ℕ) → P 0 → P (left_leaf rd x) → P (alone ws rl name x)
  alone_case P x none some = go (named rl (left_leaf rd x) name) refl
    where
      go : (b : Bool) → named rl (left_leaf rd x) name ≡ b → P (alone ws rl name x)
      go true e = rw (close_new (named rl) rd x name 0 refl e) some
      go false e = rw (close_empty (named rl) rd x name 0 refl e) none

  pub alone_fits : (x : ℕ) → x ≤ length rd → alone ws rl name x ≤ length rd
  alone_fits x h = alone_case (λ b. b ≤ length rd) x (omega arith) (leaf_within rd x h)

  -- so it is no higher than a corner on the same chain, and only the corner on the chain after that one can widen it
  module _ (k : Shape rd ws) {x a : ℕ} (on : OnChain rd x a) where
    pub after_fits : word 1 ws a ≤ length rd
    after_fits = omega (arith, k.rights a on.row, right_fits rd a)

    abbrev Joined : ℕ
    Joined = join_row rd a (alone ws rl name x) (alone ws rl name (word 1 ws a))

    pub alone_none : a ≡ 0 → alone ws rl name x ≡ Joined
    alone_none h = sym (join_empty rd a _ _ h)

    module _ (some : a ≡ 0 → ⊥) {y : ℕ} (ey : y ≡ word 1 ws a) where
      abbrev w : ℕ
      w = alone ws rl name y

      hy : y ≤ length rd
      hy = omega (arith, after_fits)

      low : (1 ≤ alone ws rl name x) × (word 3 ws (alone ws rl name x) < word 3 ws a) → ⊥
      low h =
          omega (
            arith,
            alone_case (λ b. 1 ≤ b → depth rd a ≤ depth rd b) x (λ o. absurd (omega arith)) (λ o. on.low (omega arith)) h.0,
            k.depths (alone ws rl name x) (alone_fits x on.asks),
            k.depths a on.row,
          )

      kept : ((1 ≤ w) × (word 3 ws w ≡ word 3 ws a) → ⊥) → a ≡ Joined
      kept h =
          words_kept k on.row (alone_fits x on.asks) (alone_fits y hy) some refl low h
          ∙ ap (λ (z : ℕ). join_row rd a (alone ws rl name x) (alone ws rl name z)) ey

      -- there is no chain after the corner's
      pub alone_last : y ≡ 0 → a ≡ Joined
      alone_last e = kept (λ h. alone_case (λ b. 1 ≤ b → ⊥) y (λ o. omega arith) (λ o. omega (arith, ap (left_leaf rd) e)) h.0)

      -- it begins with a row that has rows below it
      pub alone_deeper : (word 2 ws y ≡ y → ⊥) → a ≡ Joined
      alone_deeper n = kept (λ h. alone_case (λ b. 1 ≤ b → word 3 ws b ≡ word 3 ws a → ⊥) y (λ o q. omega arith) (λ o q. deeper (dec_le 1 y) q) h.0 h.1)
        where
          deeper : Dec (1 ≤ y) → word 3 ws (left_leaf rd y) ≡ word 3 ws a → ⊥
          deeper (no o) q = n (k.leaves y hy ∙ (let z : y ≡ 0 = omega arith in rw z))
          deeper (yes o) q =
              omega (
                arith,
                q,
                leaf_deep rd y (behind (leaf_least rd y) (ℕ_discrete (left_leaf rd y) y)),
                k.depths (left_leaf rd y) (leaf_within rd y hy),
                k.depths a on.row,
                right_deep rd a (omega arith, on.row) (omega (arith, k.rights a on.row)),
                ap (depth rd) (ey ∙ k.rights a on.row),
              )
            where
              behind : y ≤ left_leaf rd y → Dec (left_leaf rd y ≡ y) → y < left_leaf rd y
              behind l (yes e) = absurd (n (k.leaves y hy ∙ e))
              behind l (no e) = omega arith

      -- it is a leaf
      module _ (one : y ≡ 0 → ⊥) (is : word 2 ws y ≡ y) {l : ℕ} (el : l ≡ at rl y) where
        itself : left_leaf rd y ≡ y
        itself = sym (k.leaves y hy) ∙ is

        pub alone_gained : l ≡ name → y ≡ Joined
        alone_gained h =
            let e : w ≡ y = close_new (named rl) rd y name 0 refl (rw itself (named_same rl y l name el h)) ∙ itself in
            let d = right_deep rd a (omega arith, on.row) (omega (arith, k.rights a on.row)) in
            let q : word 3 ws y ≡ word 3 ws a = k.depths y hy ∙ ap (depth rd) (ey ∙ k.rights a on.row) ∙ d ∙ sym (k.depths a on.row) in
            words_wider k on.row (alone_fits x on.asks) hy some refl low (omega arith, q)
            ∙ ap (join_row rd a (alone ws rl name x)) (sym e)
            ∙ ap (λ (z : ℕ). join_row rd a (alone ws rl name x) (alone ws rl name z)) ey

        pub alone_missed : (l ≡ name → ⊥) → a ≡ Joined
        alone_missed h = kept (λ g. omega (arith, g.0, close_empty (named rl) rd y name 0 refl (rw itself (named_other rl y l name el h))))

-- the rows whose labels are read, a left-most leaf and a parent, have labels
module _ (ws rl : List ℕ) (k : Shape (recipe_of ws rl) ws) (x : ℕ) (h : x ≤ length (recipe_of ws rl)) where
  pub leaf_labelled : word 2 ws x ≤ length rl
  leaf_labelled = omega (arith, k.leaves x h, leaf_within (recipe_of ws rl) x h, length_words ws 1 (length rl))

  pub parent_labelled : word 0 ws x ≤ length rl
  parent_labelled = omega (arith, k.parents x h, parent_within (recipe_of ws rl) x, length_words ws 1 (length rl))
