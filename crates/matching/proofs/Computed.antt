-- The answer computed from the tables: an outcome meets the contract just if it is this one. Assumes nothing.
use mathlib.Core.Path.{◌≡◌, refl, sym, ap, subst₂, ◌∙◌}
use mathlib.Core.Bool.{Bool, true, false, ◌&&◌}
use mathlib.Core.List.{List, [], ◌++◌}
use mathlib.Core.Logic.{◌↔◌}
use Prim.Native.Nat.{ℕ, zero, suc, ◌+◌, ◌≤◌, ◌<◌}
use native.Mathlib.Omega.{arith}
use native.Mathlib.Decide.{dec_le}
use lib.Dec.{ltb, eqb}
use lib.ListN.{length, set, drop, length-set}
use borrow.Author.Tests.{ltb-true, eqb-true, lt-ltb, eq-eqb}
use Rattle.rows.specs.Rows.{Row, depth, Outline, last_row}
use Rattle.rows.specs.Forest.{Forest, nil, cons, below, forest}
use Rattle.rows.specs.Embedding.{SameLabel, Included, LiesIn}
use Rattle.rows.proofs.Depths.{inside_ends}
use Rattle.rows.proofs.Tests.{both_true}
use Rattle.rows.proofs.Inclusion.{listed, length_listed}
use Rattle.matching.specs.Corner.{corner_end, CornerIs, WholeCorner}
use Rattle.matching.specs.CornerRow.{corner_at, width_at, row_at}
use Rattle.matching.specs.EarliestClose.{Holds}
use Rattle.matching.specs.Placing.{Placed, lowest, HeldIn, Closed, FirstIn}
use Rattle.matching.specs.Room.{same_label}
use Rattle.matching.specs.Refusals.{tables_check, GoodTables}
use Rattle.matching.specs.Answer.{Answers}
use Rattle.matching.specs.declared.Answer.{Answer}
use Rattle.matching.specs.declared.Answer.TheVariants as answer
use Rattle.matching.specs.declared.Corner.{Corner}
use Rattle.matching.specs.declared.Refusal.{Refusal}
use Rattle.std.specs.Prelude.{Result, Ok}
use Rattle.matching.proofs.Refusals.{tables_fine}
use Rattle.matching.proofs.CornerLaws.{corner_at_lem, whole_iff}
use Rattle.matching.proofs.TreeRow.{tree_row}
use Rattle.matching.proofs.FirstIn.{enter, here, beyond}
use Rattle.matching.proofs.Held.{held_root, held_tree, held_below}
use Rattle.matching.proofs.Passes.{same_right}
use Rattle.matching.proofs.Placing.{highest_fits, window_closed, placed_next}
use Rattle.matching.proofs.Offers.{held_next}
use Rattle.matching.proofs.AnswerLaws.{check_fine, answer_one}

-- a step of the search: to the rows below a row, to the row itself, or behind its tree
abbrev pub step : Bool → Bool → ℕ → ℕ → ℕ → ℕ
step true t below here behind = below
step false true below here behind = here
step false false below here behind = behind

-- the answer by whether its corner is whole, and the images that it writes
abbrev pub answer_as : Bool → Corner → Answer
answer_as true c = answer.Included c
answer_as false c = answer.Absent c

abbrev pub written_as : Bool → List ℕ → List ℕ
written_as true ms = ms
written_as false ms = []

module _ (rd rl td tl : List ℕ) where
  -- the corner on the chain of recipe row v in a forest of listing rows, and whether v with all its descendants lies there
  abbrev pub corner_in : ℕ → Forest ℕ → ℕ
  corner_in v f = corner_at (same_label rl tl) rd f v

  abbrev pub tree_in : ℕ → Forest ℕ → Bool
  tree_in v f = ltb 0 (corner_in v f) && eqb (depth rd (corner_in v f)) (depth rd v)

  -- the image of row v, sought from row lo on in at most n steps
  abbrev pub image_from : ℕ → ℕ → ℕ → ℕ
  image_from v zero lo = 0
  image_from v (suc n) lo =
      step (tree_in v (below td lo)) (tree_in v (cons lo (below td lo) nil)) (image_from v n (suc lo)) lo (image_from v n (suc (last_row td lo)))

  -- the images of the first n rows, behind them 0
  abbrev pub images : ℕ → List ℕ
  images zero = listed (length rd) (λ v. 0)
  images (suc n) = set (images n) n (image_from (suc n) (suc (length td)) (lowest rd td (images n) (suc n)))

  -- the corner, whether it is whole, the answer, and the images that are written
  abbrev pub corner : Corner
  corner = record { width = width_at rd (corner_in 1 (forest td)); row = row_at rd (corner_in 1 (forest td)) }

  abbrev pub is_whole : Bool
  is_whole = eqb corner.row 0 && eqb (corner_end rd 0 corner.width) (length rd)

  abbrev pub computed : Answer
  computed = answer_as is_whole corner

  abbrev pub written : List ℕ
  written = written_as is_whole (images (length rd))

  module _ (g : GoodTables rd rl td tl) where
    abbrev Fit : ℕ → ℕ → Type 0
    Fit = SameLabel rl tl

    kr : Outline rd
    kr = g.recipe_formed.outline

    kt : Outline td
    kt = g.listing_formed.outline

    -- the tests are right
    tree_in_lem : (v : ℕ) → Row rd v → (f : Forest ℕ) → (tree_in v f ≡ true) ↔ LiesIn Fit (cons v (below rd v) nil) f
    tree_in_lem v r f =
        let t = tree_row Fit (same_label rl tl) (same_right rl tl) rd kr v r f in
        let w = corner_in v f in
        let b = both_true (ltb 0 w) (eqb (depth rd w) (depth rd v)) in (
          λ e. t.1 (ltb-true 0 w (b.0 e).0, eqb-true (depth rd w) (depth rd v) (b.0 e).1),
          λ i. b.1 (lt-ltb 0 w (t.0 i).0, eq-eqb (depth rd w) (depth rd v) (t.0 i).1),
        )

    tree_out : (v : ℕ) → Row rd v → (f : Forest ℕ) → tree_in v f ≡ false → LiesIn Fit (cons v (below rd v) nil) f → ⊥
    tree_out v r f e i = let t = (tree_in_lem v r f).1 i in cc

    -- the search comes to the first row to close, where a row from lo to hi holds v and no tree among these ends behind them
    image_first : (v : ℕ) → Row rd v → (n lo hi : ℕ) → 1 ≤ lo → hi ≤ length td → Closed td lo hi → HeldIn Fit rd td v lo hi → hi < lo + n
        → FirstIn td (Holds Fit rd td v) lo hi (image_from v n lo)
    image_first v r zero lo hi one end c k h = absurd (omega (arith, k.1, k.2))
    image_first v r (suc n) lo hi one end c k h =
        go (image_first v r n) (tree_in v (below td lo)) (tree_in v (cons lo (below td lo) nil)) refl refl
      where
        row : Row td lo
        row = omega (arith, k.1, k.2)

        whole : last_row td lo ≤ hi
        whole = c lo (omega arith) (omega (arith, k.1, k.2))

        tree_none : tree_in v (cons lo (below td lo) nil) ≡ false → (z : ℕ) → lo ≤ z → z ≤ last_row td lo → Holds Fit rd td v z → ⊥
        tree_none e z i j q = tree_out v r (cons lo (below td lo) nil) e ((held_tree Fit rd td kr kt v r lo row).0 (z, i, j, q))

        below_none : tree_in v (below td lo) ≡ false → HeldIn Fit rd td v (suc lo) (last_row td lo) → ⊥
        below_none e h = tree_out v r (below td lo) e ((held_below Fit rd td kr kt v r lo row).0 h)

        rest : tree_in v (cons lo (below td lo) nil) ≡ false → Dec (k.0 ≤ last_row td lo) → HeldIn Fit rd td v (suc (last_row td lo)) hi
        rest e (yes o) = absurd (tree_none e k.0 k.1 o k.3)
        rest e (no o) = (k.0, omega arith, k.2, k.3)

        go : ((lo hi : ℕ) → 1 ≤ lo → hi ≤ length td → Closed td lo hi → HeldIn Fit rd td v lo hi → hi < lo + n → FirstIn td (Holds Fit rd td v) lo hi (image_from v n lo))
            → (s t : Bool) → tree_in v (below td lo) ≡ s → tree_in v (cons lo (below td lo) nil) ≡ t
            → FirstIn td (Holds Fit rd td v) lo hi (step s t (image_from v n (suc lo)) lo (image_from v n (suc (last_row td lo))))
        go ih true t e f =
            enter td kt (Holds Fit rd td v) lo hi one whole end _
            (ih (suc lo) (last_row td lo) (omega arith) (omega (arith, whole)) (λ z i j. inside_ends td lo z row (omega arith) j)
            ((held_below Fit rd td kr kt v r lo row).1 ((tree_in_lem v r (below td lo)).0 e)) (omega (arith, whole)))
        go ih false true e f =
            here td kt (Holds Fit rd td v) lo hi one whole end (λ z i j q. below_none e (z, i, j, q))
            (held_root Fit rd td v lo (last_row td lo) ((held_tree Fit rd td kr kt v r lo row).1 ((tree_in_lem v r (cons lo (below td lo) nil)).0 f)) (below_none e))
        go ih false false e f =
            beyond td kt (Holds Fit rd td v) lo hi one whole end (tree_none f) _
            (ih (suc (last_row td lo)) hi (omega arith) end (λ z i j. c z (omega arith) j) (rest f (dec_le k.0 (last_row td lo))) (omega arith))

    -- so the images are those of the map of earliest close
    placed : Included Fit rd td → (n : ℕ) → n ≤ length rd → (length (images n) ≡ length rd) × Placed Fit rd td (images n) n
    placed i zero h = (length_listed (length rd) (λ v. 0), λ u r b. absurd (omega arith))
    placed i (suc n) h =
        let p = placed i n (omega arith) in
        let end = highest_fits Fit rd td kr kt (images n) n h p.1 in (
          length-set (images n) n _ ∙ p.0,
          placed_next Fit rd td kr kt (images n) n h p.1 _ (omega arith)
              (image_first (suc n) (omega arith) (suc (length td)) _ _ (omega arith) end (window_closed Fit rd td kr kt (images n) n h p.1)
              (held_next Fit rd td kr kt (images n) n h p.1 i) (omega arith)),
        )

    -- the corner is whole just where the test says so
    whole_test : (is_whole ≡ true) ↔ WholeCorner rd corner.width corner.row
    whole_test =
        let b = both_true (eqb corner.row 0) (eqb (corner_end rd 0 corner.width) (length rd)) in (
          λ e. (eqb-true corner.row 0 (b.0 e).0, eqb-true (corner_end rd 0 corner.width) (length rd) (b.0 e).1),
          λ p. b.1 (eq-eqb corner.row 0 p.0, eq-eqb (corner_end rd 0 corner.width) (length rd) p.1),
        )

    -- and the computed outcome meets the contract
    meets : (m : List ℕ) → length rd ≤ length m → Answers rd rl td tl m (Ok computed) (written ++ drop (length written) m)
    meets m h = go is_whole refl
      where
        i : CornerIs Fit rd td corner.width corner.row
        i = corner_at_lem Fit rd td kr g.recipe_some kt (same_label rl tl) (same_right rl tl) (corner_in 1 (forest td)) refl

        go : (t : Bool) → is_whole ≡ t
            → Answers rd rl td tl m (Ok (answer_as t corner)) (written_as t (images (length rd)) ++ drop (length (written_as t (images (length rd)))) m)
        go true e =
            let y = whole_test.0 e in
            let p = placed ((whole_iff Fit rd td kr g.recipe_some kt corner.width corner.row i).0 y) (length rd) (omega arith) in
            let k = images (length rd) in (
              check_fine rd rl td tl m ((tables_fine rd rl td tl).1 g) h,
              i,
              y,
              (k, record { count = p.0; each = λ v r. p.1 v r r.1 }, ap (λ (x : ℕ). k ++ drop x m) p.0),
            )
        go false e =
            (check_fine rd rl td tl m ((tables_fine rd rl td tl).1 g) h, i, λ p. let t = whole_test.1 p in cc, refl)

  -- the tables are good, and the computed answer and images are these
  abbrev pub Computed : Answer → List ℕ → Type 0
  Computed a ms = (tables_check rd rl td tl ≡ Ok tt) × (computed ≡ a) × (written ≡ ms)

  -- then an outcome meets the contract just if it is that answer, with those images in front of the old slots
  pub answer_is : (a : Answer) (ms : List ℕ) → Computed a ms → (m : List ℕ) → length rd ≤ length m → (r : Result Answer Refusal) (n : List ℕ)
      → Answers rd rl td tl m r n ↔ ((r ≡ Ok a) × (n ≡ ms ++ drop (length ms) m))
  answer_is a ms c m h r n =
      let k = rw (c.1, c.2) at (meets ((tables_fine rd rl td tl).0 c.0) m h) in
      (λ b. answer_one rd rl td tl m r (Ok a) n (ms ++ drop (length ms) m) b k, λ b. subst₂ (Answers rd rl td tl m) (sym b.0) (sym b.1) k)
