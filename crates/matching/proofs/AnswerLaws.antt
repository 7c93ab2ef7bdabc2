-- The answer: what the code finds is what document 01 says, and there is one answer. Assumes nothing.
use mathlib.Core.Path.{◌≡◌, refl, sym, ap, subst, ◌∙◌}
use mathlib.Core.Bool.{Bool}
use mathlib.Core.List.{List, ◌++◌}
use mathlib.Core.Logic.{◌↔◌}
use Prim.Native.Nat.{ℕ, ◌≤◌}
use native.Mathlib.Omega.{arith}
use lib.Dec.{ltb}
use lib.ListN.{length, take, drop, take-append-drop}
use borrow.Author.Tests.{le-ltb}
use Rattle.std.specs.Prelude.{Result, Ok, Err}
use Rattle.rows.specs.Rows.{depth, Outline}
use Rattle.rows.specs.Forest.{forest}
use Rattle.rows.specs.Embedding.{SameLabel, Included}
use Rattle.matching.specs.Family.{right_sibling}
use Rattle.matching.specs.Corner.{CornerIs, WholeCorner}
use Rattle.matching.specs.EarliestClose.{EarliestClose}
use Rattle.matching.specs.CornerRow.{corner_at, width_at, row_at}
use Rattle.matching.specs.Shape.{word, Shape, Kinds}
use Rattle.matching.specs.Room.{recipe_of, same_label}
use Rattle.matching.specs.Engine.{Ready, corner_of}
use Rattle.matching.specs.declared.Answer.{Answer}
use Rattle.matching.specs.declared.Answer.TheVariants as answer
use Rattle.matching.specs.declared.Corner.{Corner}
use Rattle.matching.specs.declared.Refusal.{Refusal}
use Rattle.matching.specs.declared.Refusal.TheVariants.{MapShort}
use Rattle.matching.specs.Refusals.{Checked, refused_if, first, tables_check, GoodTables}
use Rattle.matching.specs.Answer.{include_check, Answers}
use Rattle.matching.proofs.Refusals.{tables_fine}
use Rattle.matching.proofs.CornerLaws.{corner_one, corner_at_lem, included_row, whole_iff}
use Rattle.matching.proofs.CornerRow.{corner_fits}
use Rattle.matching.proofs.EarliestClose.{earliest_one}
use Rattle.matching.proofs.Passes.{same_right}
use Rattle.matching.proofs.Width.{recipe_of_lem}

-- refused for the tables, or for the map, or not at all
module _ (rd rl td tl m : List ℕ) where
  pub check_tables : (t : Checked) → tables_check rd rl td tl ≡ t → include_check rd rl td tl m ≡ first t (refused_if (ltb (length m) (length rd)) MapShort (Ok tt))
  check_tables t e = ap (λ (x : Checked). first x (refused_if (ltb (length m) (length rd)) MapShort (Ok tt))) e

  pub check_fine : tables_check rd rl td tl ≡ Ok tt → length rd ≤ length m → include_check rd rl td tl m ≡ Ok tt
  check_fine e h = check_tables (Ok tt) e ∙ ap (λ (b : Bool). refused_if b MapShort (Ok tt)) (le-ltb (length m) (length rd) h)

module _ {rd rl td tl : List ℕ} (g : GoodTables rd rl td tl) {ws : List ℕ} (k : Shape rd ws) where
  abbrev Fit : ℕ → ℕ → Type 0
  Fit = SameLabel rl tl

  pub recipe_is : recipe_of ws rl ≡ rd
  recipe_is = recipe_of_lem rd ws rl k g.recipe_slices

  kr : Outline rd
  kr = g.recipe_formed.outline

  kt : Outline td
  kt = g.listing_formed.outline

  pub ready : Kinds rl ws → Ready ws rl td tl
  ready kinds = record { outline = rw recipe_is kr; shallow = rw recipe_is g.recipe_formed.shallow; shape = rw recipe_is k; kinds = kinds; listing = g.listing_formed; names = sym g.listing_slices; few = g.listing_few }

  -- a row that is the last root
  abbrev LastRoot : ℕ → Type 0
  LastRoot w = (1 ≤ w) × (depth rd w ≡ 0) × (right_sibling rd w ≡ 0)

  module _ {w : ℕ} (e : w ≡ corner_of ws rl tl (forest td) 1) where
    top : w ≡ corner_at (same_label rl tl) rd (forest td) 1
    top = e ∙ ap (λ (r : List ℕ). corner_at (same_label rl tl) r (forest td) 1) recipe_is

    pub corner_low : w ≤ length rd
    corner_low = omega (arith, top, corner_fits (same_label rl tl) rd kr (forest td) 1 g.recipe_some)

    -- the corner is document 01's
    corner_right : (i v : ℕ) → (i ≡ width_at rd w) × (v ≡ row_at rd w) → CornerIs Fit rd td i v
    corner_right i v p =
        rw (p.0, p.1) (corner_at_lem Fit rd td kr g.recipe_some kt (same_label rl tl) (same_right rl tl) w top)

    -- and whole just on a yes
    pub whole_included : ((1 ≤ w) × (word 3 ws w ≡ 0) × (word 1 ws w ≡ 0)) ↔ Included Fit rd td
    whole_included =
        let i = included_row Fit rd td kr g.recipe_some kt (same_label rl tl) (same_right rl tl) in
        let d = k.depths w corner_low in
        let s = k.rights w corner_low in (
          λ h. i.1 (subst LastRoot top (h.0, sym d ∙ h.1, sym s ∙ h.2)),
          λ h. let r = subst LastRoot (sym top) (i.0 h) in (r.0, d ∙ r.1, s ∙ r.2),
        )

    module _ (m : List ℕ) (room : length rd ≤ length m) (c : Corner) (p : (c.width ≡ width_at rd w) × (c.row ≡ row_at rd w)) where
      fine : include_check rd rl td tl m ≡ Ok tt
      fine = check_fine rd rl td tl m ((tables_fine rd rl td tl).1 g) room

      pub answers_absent : ((1 ≤ w) × (word 3 ws w ≡ 0) × (word 1 ws w ≡ 0) → ⊥) → Answers rd rl td tl m (Ok (answer.Absent c)) m
      answers_absent n =
          let i = corner_right c.width c.row p in
          (fine, i, (λ h. n (whole_included.1 ((whole_iff Fit rd td kr g.recipe_some kt c.width c.row i).0 h))), refl)

      pub answers_included : (1 ≤ w) × (word 3 ws w ≡ 0) × (word 1 ws w ≡ 0) → (n : List ℕ) → EarliestClose Fit rd td (take (length rd) n)
          → drop (length rd) n ≡ drop (length rd) m → Answers rd rl td tl m (Ok (answer.Included c)) n
      answers_included y n q d =
          let i = corner_right c.width c.row p in (
            fine,
            i,
            (whole_iff Fit rd td kr g.recipe_some kt c.width c.row i).1 (whole_included.0 y),
            (take (length rd) n, q, sym (take-append-drop (length rd) n) ∙ ap (λ (x : List ℕ). take (length rd) n ++ x) d),
          )

-- two answers to one question are the same, and leave the same map
same_pair : (c d : Corner) → (c.width ≡ d.width) × (c.row ≡ d.row) → c ≡ d
same_pair c d p = λ i. record { width = p.0 i; row = p.1 i }

pub fine_tables : (rd rl td tl m : List ℕ) → include_check rd rl td tl m ≡ Ok tt → tables_check rd rl td tl ≡ Ok tt
fine_tables rd rl td tl m e = go (tables_check rd rl td tl) refl
  where
    go : (t : Checked) → tables_check rd rl td tl ≡ t → tables_check rd rl td tl ≡ Ok tt
    go (Ok u) q = q
    go (Err x) q = let p = check_tables rd rl td tl m (Err x) q in cc

not_both : (t : Checked) (x : Refusal) → t ≡ Ok tt → t ≡ Err x → ⊥
not_both t x p q = cc

module _ (rd rl td tl m : List ℕ) where
  one_corner : (c d : Corner) → CornerIs (SameLabel rl tl) rd td c.width c.row → CornerIs (SameLabel rl tl) rd td d.width d.row → c ≡ d
  one_corner c d a b = same_pair c d (corner_one (SameLabel rl tl) rd td c.width c.row d.width d.row a b)

  one_map : include_check rd rl td tl m ≡ Ok tt → (x y : List ℕ) → EarliestClose (SameLabel rl tl) rd td x → EarliestClose (SameLabel rl tl) rd td y → x ≡ y
  one_map e x y a b =
      earliest_one (SameLabel rl tl) rd td ((tables_fine rd rl td tl).0 (fine_tables rd rl td tl m e)).listing_formed.outline x y a b

  -- a yes and a no are never both right
  not_yes_no : (c d : Corner) → CornerIs (SameLabel rl tl) rd td c.width c.row → CornerIs (SameLabel rl tl) rd td d.width d.row
      → WholeCorner rd c.width c.row → (WholeCorner rd d.width d.row → ⊥) → ⊥
  not_yes_no c d a b y n = n (subst (λ (x : Corner). WholeCorner rd x.width x.row) (one_corner c d a b) y)

  pub answer_one : (r s : Result Answer Refusal) (n k : List ℕ) → Answers rd rl td tl m r n → Answers rd rl td tl m s k → (r ≡ s) × (n ≡ k)
  answer_one (Ok (answer.Included c)) (Ok (answer.Included d)) n k a b = (
    ap (λ (x : Corner). Ok (answer.Included x)) (one_corner c d a.1 b.1),
    a.3.2 ∙ ap (λ (x : List ℕ). x ++ drop (length rd) m) (one_map a.0 a.3.0 b.3.0 a.3.1 b.3.1) ∙ sym b.3.2,
  )
  answer_one (Ok (answer.Included c)) (Ok (answer.Absent d)) n k a b = absurd (not_yes_no c d a.1 b.1 a.2 b.2)
  answer_one (Ok (answer.Included c)) (Err y) n k a b = absurd (not_both _ y a.0 b.0)
  answer_one (Ok (answer.Absent c)) (Ok (answer.Included d)) n k a b = absurd (not_yes_no d c b.1 a.1 b.2 a.2)
  answer_one (Ok (answer.Absent c)) (Ok (answer.Absent d)) n k a b = (ap (λ (x : Corner). Ok (answer.Absent x)) (one_corner c d a.1 b.1), a.3 ∙ sym b.3)
  answer_one (Ok (answer.Absent c)) (Err y) n k a b = absurd (not_both _ y a.0 b.0)
  answer_one (Err x) (Ok (answer.Included d)) n k a b = absurd (not_both _ x b.0 a.0)
  answer_one (Err x) (Ok (answer.Absent d)) n k a b = absurd (not_both _ x b.0 a.0)
  answer_one (Err x) (Err y) n k a b =
      let p = a.0 in let q = b.0 in let e : x ≡ y = cc in (ap Err e, a.1 ∙ sym b.1)
