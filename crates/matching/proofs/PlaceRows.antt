-- Placing one recipe row more. Assumes nothing.
use mathlib.Core.Path.{◌≡◌, refl, sym, ap, subst, ◌∙◌}
use mathlib.Core.Bool.{Bool, true, false}
use mathlib.Core.List.{List, [], ◌∷◌}
use Prim.Native.Nat.{ℕ, zero, suc, ◌-◌, ◌≤◌, ◌<◌}
use native.Mathlib.Omega.{arith}
use lib.Dec.{eqb}
use lib.ListN.{length, get_or, set, length-set}
use lib.Seq.{drop-set-lt}
use Rattle.std.specs.Prelude.{Option, Some, None, IfSome}
use Rattle.rows.specs.Limits.{listing_rows}
use Rattle.rows.specs.Rows.{at, Row, Outline, depth, descendants, last_row}
use Rattle.rows.specs.Embedding.{SameLabel, Included}
use Rattle.matching.specs.Family.{parent, left_sibling, left_leaf}
use Rattle.matching.specs.EarliestClose.{Holds}
use Rattle.matching.specs.Placing.{Placed, barred, lowest, highest, HeldIn, HeldDeep, Closed, FirstIn}
use Rattle.matching.specs.Asked.{chain}
use Rattle.matching.specs.Shape.{word}
use Rattle.matching.specs.Path.{logged, Path, PathAsked, Tells, Told, Logged, Marks, Marked}
use Rattle.matching.specs.Images.{Cleared, Begun, Stage, NextRow}
use Rattle.matching.specs.Room.{recipe_of}
use Rattle.matching.specs.Engine.{Ready, Found, Known, KnownAt}
use Rattle.rows.proofs.Depths.{inside_deeper}
use Rattle.rows.proofs.AtLaws.{at_row}
use Rattle.rows.proofs.Order.{window}
use Rattle.matching.proofs.Asking.{inner_row}
use Rattle.matching.proofs.Family.{parent_before, left_before, ParentView, root, child, parent_view}
use Rattle.matching.proofs.FirstIn.{narrow}
use Rattle.matching.proofs.Marks.{told_some, told_first, marked_none, marked_kept, marks_images, marks_placed, marked_path, marked_pass, marked_window}
use Rattle.matching.proofs.Placing.{behind_parent, highest_fits, window_closed, placed_next}
use Rattle.matching.proofs.Offers.{held_next}
use Rattle.matching.proofs.Scan.{leaf_held, first_fit}
use Rattle.matching.proofs.Width.{length_words}

-- the last row barred rests on the images of the two rows
pub barred_same : (td m m' : List ℕ) (s p : ℕ) → at m' s ≡ at m s → at m' p ≡ at m p → barred td m s p ≡ barred td m' s p
barred_same td m m' zero p a b = sym b
barred_same td m m' (suc s) p a b = sym (ap (last_row td) a)

-- the window of row 1 begins with the first row
barred_one : (rd td m : List ℕ) → barred td m (left_sibling rd 1) (parent rd 1) ≡ 0
barred_one rd td m = ap (λ (s : ℕ). barred td m s 0) (none (eqb (depth rd 0) (depth rd 1)))
  where
    none : (b : Bool) → ◌≡◌ {A = ℕ} (elim b [ true ↦ 0 | false ↦ 0 ]) 0
    none true = refl
    none false = refl

module _ (Fit : ℕ → ℕ → Type 0) (rd td : List ℕ) (kr : Outline rd) (kt : Outline td) (inc : Included Fit rd td) where
  -- no image stands higher than its row
  image_deep : (m : List ℕ) (n : ℕ) → Placed Fit rd td m n → (b u : ℕ) → u < b → Row rd u → u ≤ n → depth rd u ≤ depth td (at m u)
  image_deep m n placed zero u h r o = absurd (omega arith)
  image_deep m n placed (suc b) u h r o = go (parent_view rd kr u r) (image_deep m n placed b (parent rd u))
    where
      go : ParentView rd u → (parent rd u < b → Row rd (parent rd u) → parent rd u ≤ n → depth rd (parent rd u) ≤ depth td (at m (parent rd u))) → depth rd u ≤ depth td (at m u)
      go (root z d f) ih = omega (arith, d)
      go (child p) ih =
          let q = p.above in
          let a = (placed u r o).allowed in
          let x : Row rd (parent rd u) = omega (arith, q) in
          let y : parent rd u ≤ n = omega (arith, q) in
          let k = (placed (parent rd u) x y).allowed.row in
          let w = (window td kt (at m (parent rd u)) (at m u) k a.row).0 (a.below (λ z. omega (arith, q))) in
          omega (arith, p.step, ih (omega (arith, q)) x y, inside_deeper td (at m (parent rd u)) (at m u) k.0 w.0 w.1)

  -- the window of the row behind the n placed ones begins behind `from` rows
  module _ (m : List ℕ) (n from : ℕ) (placed : Placed Fit rd td m n) (more : n < length rd) (ef : from ≡ barred td m (left_sibling rd (suc n)) (parent rd (suc n))) where
    abbrev hi : ℕ
    hi = highest rd td m (suc n)

    low : suc from ≡ lowest rd td m (suc n)
    low = ap suc ef

    whole : Closed td (suc from) hi
    whole = rw low (window_closed Fit rd td kr kt m n more placed)

    end : hi ≤ length td
    end = highest_fits Fit rd td kr kt m n more placed

    -- some row of it holds that row, ..
    held : HeldIn Fit rd td (suc n) (suc from) hi
    held = rw low (held_next Fit rd td kr kt m n more placed inc)

    -- none of the window's rows stands higher than that row in the recipe
    deep : (t : ℕ) → suc from ≤ t → t ≤ hi → depth rd (suc n) ≤ depth td t
    deep t a b = go (parent_view rd kr (suc n) (omega arith))
      where
        go : ParentView rd (suc n) → depth rd (suc n) ≤ depth td t
        go (root z d f) = omega (arith, d)
        go (child p) =
            let q = p.above in
            let x : Row rd (parent rd (suc n)) = omega (arith, q) in
            let y : parent rd (suc n) ≤ n = omega (arith, q) in
            omega (arith, p.step, image_deep m n placed (suc n) (parent rd (suc n)) q.1 x y, inside_deeper td (at m (parent rd (suc n))) t (placed (parent rd (suc n)) x y).allowed.row.0 (omega (arith, low, behind_parent Fit rd td kr kt m n more placed)) b)

    pub held_behind : HeldDeep Fit rd td (suc n) (suc from) (length td)
    held_behind = (held.0, held.1, omega (arith, held.2, end), held.3, λ y a b. deep y a (omega (arith, held.2)))

    -- .. and the first to close behind the window's beginning is in the window
    pub placed_one : (t : ℕ) → n < length m → FirstIn td (Holds Fit rd td (suc n)) (suc from) (length td) t → Placed Fit rd td (set m n t) (suc n)
    placed_one t o f =
        let g = narrow td kt (Holds Fit rd td (suc n)) (suc from) hi (length td) t (omega arith) end (omega arith) whole held.0 held.1 held.2 held.3 f in
        placed_next Fit rd td kr kt m n more placed t o (rw low at g)

    -- where the row has a mark, the log tells what its window holds
    module _ (ls : List ℕ) (marked : Marked Fit rd td ls m n) (o : 1 ≤ at m (suc n)) where
      told : (t : ℕ) → from < t → t ≤ hi → Tells Fit rd td ls t (at m (suc n)) (suc n)
      told t a b = marked_window Fit rd td kr kt m n placed ls more marked o t (omega (arith, low)) b

      pub logged_some : (y : ℕ) × (suc from ≤ y) × (y ≤ length td) × Fit (suc n) y × (logged ls y ≤ at m (suc n))
      logged_some = told_some Fit rd td kr kt from hi (suc n) (at m (suc n)) ls end whole told held

      pub logged_first : (t : ℕ) → FirstIn td (λ y. Fit (suc n) y × (logged ls y ≤ at m (suc n))) (suc from) (length td) t → FirstIn td (Holds Fit rd td (suc n)) (suc from) (length td) t
      logged_first = told_first Fit rd td kr kt from hi (suc n) (at m (suc n)) ls end whole told held

  -- one row more is placed: without a pass, ..
  module _ (m ls : List ℕ) (n from : ℕ) (s : Stage Fit rd td m ls m n) (room : length rd ≤ length m) (more : n < length rd)
      (ef : from ≡ barred td m (left_sibling rd (suc n)) (parent rd (suc n))) (t : ℕ) (f : FirstIn td (Holds Fit rd td (suc n)) (suc from) (length td) t) where
    pub stage_one : Stage Fit rd td m ls (set m n t) (suc n)
    stage_one =
        record {
          few = more;
          placed = placed_one m n from s.placed more ef t (omega arith) f;
          marked = marked_kept Fit rd td kr kt ls m n s.marked t;
          size = length-set m n t;
          rest = drop-set-lt (length rd) m n t more;
        }

    -- .. or by one, which has left a log and marks
    pub stage_pass : at m (suc n) ≡ 0 → (asked : List ℕ) (k : ℕ) → PathAsked rd asked k → chain asked 0 ≡ suc n → (us os m' : List ℕ) → Logged Fit rd td asked k ls from t us os
        → Marks rd asked k 63 m m' → Stage Fit rd td m os (set m' n t) (suc n)
    stage_pass none asked k p top us os m' g w =
        let same = marks_images Fit rd td kr kt asked n k p.path top m m' w in
        record {
          few = more;
          placed = placed_one m' n from (marks_placed Fit rd td kr kt asked n k p.path top m m' w s.placed) more (ef ∙ barred_same td m m' (left_sibling rd (suc n)) (parent rd (suc n)) (same (left_sibling rd (suc n)) (before (left_sibling rd (suc n)) (left_before rd (suc n) (omega arith)))) (same (parent rd (suc n)) (before (parent rd (suc n)) (parent_before rd (suc n) (omega arith))))) t (omega (arith, w.size)) f;
          marked = marked_pass Fit rd td kr kt ls os m m' asked us n k from t s.marked none p top room w g;
          size = length-set m' n t ∙ w.size;
          rest = drop-set-lt (length rd) m' n t more ∙ w.rest;
        }
      where
        before : (u : ℕ) → u < suc n → u ≤ suc n
        before u o = omega arith

  -- the map before any row is placed, or behind row 1
  module _ (m₀ m₁ : List ℕ) (c : Cleared rd m₀ m₁) (some : 1 ≤ length rd) (room : length rd ≤ length m₀) (ls : List ℕ) where
    slot : (n : ℕ) → n ≡ length m₀ → 0 < n
    slot n e = omega (arith, some, room)

    placed_none : (m : List ℕ) → Placed Fit rd td m 0
    placed_none m u r h = absurd (omega arith)

    stage_none : Stage Fit rd td m₀ ls m₁ 0
    stage_none = record { few = omega arith; placed = placed_none m₁; marked = marked_none Fit rd td kr kt m₀ m₁ ls c; size = c.size; rest = c.rest }

    -- the log tells of the tree at row 1's image and of row 1's chain, and that chain has its marks
    stage_known : (t : ℕ) → FirstIn td (Holds Fit rd td 1) 1 (length td) t → Path rd (1 ∷ []) 1
        → ((y : ℕ) → t ≤ y → y ≤ last_row td t → Told Fit rd td (1 ∷ []) 1 ls y) → (m₂ : List ℕ) → Marks rd (1 ∷ []) 1 63 m₁ m₂
        → Stage Fit rd td m₀ ls (set m₂ 0 t) 1
    stage_known t f p told m₂ marks =
        record {
          few = some;
          placed = placed_one m₂ 0 0 (placed_none m₂) some (sym (barred_one rd td m₂)) t (slot (length m₂) (marks.size ∙ c.size)) f;
          marked = marked_path Fit rd td kr kt ls ls m₁ m₂ (1 ∷ []) 0 1 t stage_none.marked (c.none 1 some) (omega arith) p refl (omega (arith, c.size)) marks told (λ y h. refl);
          size = length-set m₂ 0 t ∙ marks.size ∙ c.size;
          rest = drop-set-lt (length rd) m₂ 0 t some ∙ marks.rest ∙ c.rest;
        }

-- the same by a question's recipe
module _ {ws rl td tl rd : List ℕ} (k : Ready ws rl td tl) (e : recipe_of ws rl ≡ rd) where
  abbrev Fit : ℕ → ℕ → Type 0
  Fit = SameLabel rl tl

  kr : Outline rd
  kr = rw e at k.outline

  pub known_fits : (ls : List ℕ) (o : Option ℕ) → Known ws rl td tl ls o → IfSome o (λ t. (t ≤ listing_rows) × (1 ≤ descendants rd 1))
  known_fits ls None h = tt
  known_fits ls (Some t) known =
      let h : KnownAt ws rl td tl ls t = known in (omega (arith, h.first.high, k.few), (rw e at h.path).inner 0 (omega arith))

  pub stage_begun : Included Fit rd td → {m₀ m₁ : List ℕ} → Cleared rd m₀ m₁ → 1 ≤ length rd → length rd ≤ length m₀ → {ls : List ℕ} (o : Option ℕ)
      → Known ws rl td tl ls o → (n : ℕ) (m : List ℕ) → Begun rd o m₁ n m → Stage Fit rd td m₀ ls m n
  stage_begun inc {m₀} {m₁} c some room {ls} None known n m (a, b) = rw (a, b) (stage_none Fit rd td kr k.listing.outline inc m₀ m₁ c some room ls)
  stage_begun inc {m₀} {m₁} c some room {ls} (Some t) known n m (a, m₂, marks, b) =
      let h : KnownAt ws rl td tl ls t = known in
      rw (a, b) (stage_known Fit rd td kr k.listing.outline inc m₀ m₁ c some room ls t (rw e at h.first) (rw e at h.path) (rw e at h.told) m₂ marks)

  -- and of row v, which is next
  module _ {ls m : List ℕ} {v : ℕ} (p : NextRow Fit rd td ls m v) where
    pub row_labelled : v - 1 < length rl
    row_labelled = omega (arith, p.row, ap length e, length_words ws 1 (length rl))

    leaf_is : word 2 ws v ≡ left_leaf rd v
    leaf_is = rw e at (k.shape.leaves v (rw e p.row.1))

    pub row_inner : (word 2 ws v ≡ v → ⊥) → Row rd v × (1 ≤ descendants rd v)
    row_inner n = (p.row, inner_row rd kr v p.row (λ z. n (leaf_is ∙ z)))

    named : get_or rl (v - 1) 0 ≡ at rl v
    named = sym (at_row rl v p.row.0)

    module _ {from : ℕ} (ef : from ≡ barred td m (left_sibling rd v) (parent rd v)) where
      next : v ≡ suc (v - 1)
      next = omega (arith, p.row)

      more : v - 1 < length rd
      more = omega (arith, p.row)

      begins : from ≡ barred td m (left_sibling rd (suc (v - 1))) (parent rd (suc (v - 1)))
      begins = subst (λ (u : ℕ). from ≡ barred td m (left_sibling rd u) (parent rd u)) next ef

      here : HeldDeep Fit rd td v (suc from) (length td)
      here =
          subst (λ (u : ℕ). HeldDeep Fit rd td u (suc from) (length td)) (sym next)
          (held_behind Fit rd td kr k.listing.outline p.included m (v - 1) from p.stage.placed more begins)

      -- some row behind `from` rows holds it
      pub row_held : {u : ℕ} → u ≡ v → HeldDeep Fit (recipe_of ws rl) td u (suc from) (length td)
      row_held q = rw (q, e) here

      one : {t : ℕ} → FirstIn td (Holds Fit rd td v) (suc from) (length td) t → (t ≤ length td) × Stage Fit rd td m ls (set m (v - 1) t) v
      one {t} f = (
        f.high,
        subst (λ (u : ℕ). Stage Fit rd td m ls (set m (v - 1) t) u) (sym next)
            (stage_one Fit rd td kr k.listing.outline p.included m ls (v - 1) from p.stage p.room more begins t
            (subst (λ (u : ℕ). FirstIn td (Holds Fit rd td u) (suc from) (length td) t) next f)),
      )

      -- where it has no row below it, one with its label does, and the first of these to close is its image
      module _ (leaf : word 2 ws v ≡ v) where
        pub leaf_some : (y : ℕ) × (suc from ≤ y) × (y ≤ length td) × (get_or rl (v - 1) 0 ≡ at tl y) × Unit {0}
        leaf_some =
            let h = here in
            (h.0, h.1, h.2, named ∙ (leaf_held Fit rd td kr k.listing.outline v p.row (sym leaf_is ∙ leaf) h.0 (omega (arith, h.1, h.2))).0 h.3, tt)

        pub leaf_one : {t : ℕ} → FirstIn td (λ y. (get_or rl (v - 1) 0 ≡ at tl y) × Unit {0}) (suc from) (length td) t
            → (t ≤ length td) × Stage Fit rd td m ls (set m (v - 1) t) v
        leaf_one {t} f =
            one (first_fit Fit rd td kr k.listing.outline v p.row (sym leaf_is ∙ leaf) (suc from) t (omega arith) (rw named at f))

      -- where it has a mark, the log names one, and the first of these to close is its image
      module _ {i : ℕ} (mark : i ≡ at m v) (some : i ≡ 0 → ⊥) where
        marked : 1 ≤ at m (suc (v - 1))
        marked = subst (λ (u : ℕ). 1 ≤ at m u) next (omega (arith, mark, some))

        pub mark_some : (y : ℕ) × (suc from ≤ y) × (y ≤ length td) × (get_or rl (v - 1) 0 ≡ at tl y) × (logged ls y ≤ i)
        mark_some =
            let h = subst (λ (u : ℕ). (y : ℕ) × (suc from ≤ y) × (y ≤ length td) × Fit u y × (logged ls y ≤ at m u)) (sym next)
            (logged_some Fit rd td kr k.listing.outline p.included m (v - 1) from p.stage.placed more begins ls p.stage.marked marked) in
            (h.0, h.1, h.2, named ∙ h.3, omega (arith, h.4, mark))

        pub mark_one : {t : ℕ} → FirstIn td (λ y. (get_or rl (v - 1) 0 ≡ at tl y) × (logged ls y ≤ i)) (suc from) (length td) t
            → (t ≤ length td) × Stage Fit rd td m ls (set m (v - 1) t) v
        mark_one {t} f =
            one (subst (λ (u : ℕ). FirstIn td (Holds Fit rd td u) (suc from) (length td) t) (sym next)
            (logged_first Fit rd td kr k.listing.outline p.included m (v - 1) from p.stage.placed more begins ls p.stage.marked marked t
            (subst (λ (u : ℕ). FirstIn td (λ y. Fit u y × (logged ls y ≤ at m u)) (suc from) (length td) t) next (rw (named, mark) at f))))

      -- else a pass has found it
      pub row_pass : at m v ≡ 0 → {asked : List ℕ} {l : ℕ} → PathAsked rd asked l → chain asked 0 ≡ v → {m' : List ℕ} → Marks rd asked l 63 m m'
          → {t : ℕ} {us ss os : List ℕ} → Found ws rl td tl asked ls l from (length td) t us ss os → (t ≤ length td) × Stage Fit rd td m os (set m' (v - 1) t) v
      row_pass none {asked} {l} path top {m'} marks {t} {us} {ss} {os} f = (
        f.found.high,
        subst (λ (u : ℕ). Stage Fit rd td m os (set m' (v - 1) t) u) (sym next)
            (stage_pass Fit rd td kr k.listing.outline p.included m ls (v - 1) from p.stage p.room more begins t
            (subst (λ (u : ℕ). FirstIn td (Holds Fit rd td u) (suc from) (length td) t) (top ∙ next) (rw e at f.found))
            (subst (λ (u : ℕ). at m u ≡ 0) next none) asked l path (top ∙ next) us os m' (rw e at f.logged) marks),
      )

-- a stage as seen from its own map
pub stage_here : {Fit : ℕ → ℕ → Type 0} {rd td m₀ ls m : List ℕ} {n : ℕ} → Stage Fit rd td m₀ ls m n → Stage Fit rd td m ls m n
stage_here s = record { few = s.few; placed = s.placed; marked = s.marked; size = refl; rest = refl }
