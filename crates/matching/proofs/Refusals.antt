-- The refusals 1 to 9: a question is not refused exactly where both tables are good. Assumes nothing.
use mathlib.Core.Path.{◌≡◌, refl}
use mathlib.Core.Bool.{Bool, true, false, not}
use mathlib.Core.List.{List, [], ◌∷◌}
use mathlib.Core.Logic.{◌↔◌}
use Prim.Native.Nat.{ℕ, ◌≤◌}
use native.Mathlib.Omega.{arith}
use lib.Dec.{eqb, ltb}
use lib.ListN.{length}
use borrow.Author.Tests.{eqb-true, eqb-false, ltb-false, not-false, eq-eqb, ne_eqb, le-ltb}
use Rattle.rows.specs.declared.BadRow.{BadRow}
use Rattle.rows.specs.declared.BadRow.TheVariants.{Step, TooDeep}
use Rattle.rows.specs.Limits.{recipe_rows, listing_rows}
use Rattle.rows.specs.Rows.{WellFormed}
use Rattle.rows.specs.FirstBad.{check_from, first_bad}
use Rattle.rows.proofs.FirstBad.{fine_iff}
use Rattle.matching.specs.declared.Refusal.{Refusal}
use Rattle.matching.specs.declared.Refusal.TheVariants.{RecipeSlices, RecipeEmpty, RecipeLong, RecipeStep, RecipeDeep, ListingSlices, ListingLong, ListingStep, ListingDeep}
use Rattle.std.specs.Prelude.{Result, Ok, Err}
use Rattle.matching.specs.Refusals.{Checked, refused_if, bad_row, table_check, recipe_check, listing_check, first, tables_check, GoodTables}

-- a test refuses nothing and what comes next is fine; each by what it says
passed : (t : Bool) (x : Refusal) (next : Checked) {A B : Type 0} → (t ≡ false) ↔ A → (next ≡ Ok tt) ↔ B → (refused_if t x next ≡ Ok tt) ↔ (A × B)
passed true x next a b = (λ e. (a.0 (cc), b.0 (cc)), λ h. let z = a.1 h.0 in cc)
passed false x next a b = (λ e. (a.0 refl, b.0 e), λ h. b.1 h.1)

alike : (m n : ℕ) → (not (eqb m n) ≡ false) ↔ (m ≡ n)
alike m n = (λ e. eqb-true m n (not-false (eqb m n) e), λ e. rw (eq-eqb m n e))

some : (n : ℕ) → (eqb n 0 ≡ false) ↔ (1 ≤ n)
some n = (λ e. let h = eqb-false n 0 e in omega arith, λ h. ne_eqb n 0 (λ e. omega arith))

few : (most n : ℕ) → (ltb most n ≡ false) ↔ (n ≤ most)
few most n = (ltb-false most n, le-ltb most n)

row_fine : (step deep : ℕ → Refusal) (r : Result (Unit {0}) BadRow) → (bad_row step deep r ≡ Ok tt) ↔ (r ≡ Ok tt)
row_fine step deep (Ok u) = (λ e. refl, λ e. refl)
row_fine step deep (Err (Step v)) = (λ e. cc, λ e. cc)
row_fine step deep (Err (TooDeep v)) = (λ e. cc, λ e. cc)

formed : (step deep : ℕ → Refusal) (ds : List ℕ) → (bad_row step deep (first_bad ds) ≡ Ok tt) ↔ WellFormed ds
formed step deep ds =
    let r = row_fine step deep (first_bad ds) in
    let w = fine_iff ds in
    (λ e. w.0 (r.0 e), λ h. r.1 (w.1 h))

module _ (ds ls : List ℕ) where
  recipe_fine : (recipe_check ds ls ≡ Ok tt) ↔ ((length ds ≡ length ls) × ((1 ≤ length ds) × ((length ds ≤ recipe_rows) × WellFormed ds)))
  unfolding recipe_check
  recipe_fine = passed _ _ _ (alike _ _) (passed _ _ _ (some _) (passed _ _ _ (few _ _) (formed _ _ ds)))

  listing_fine : (listing_check ds ls ≡ Ok tt) ↔ ((length ds ≡ length ls) × ((length ds ≤ listing_rows) × WellFormed ds))
  unfolding listing_check
  listing_fine = passed _ _ _ (alike _ _) (passed _ _ _ (few _ _) (formed _ _ ds))

-- a table of a size that is taken is refused for its rows only
pub sized : (slices : Refusal) (empty : Checked) (most : ℕ) (long : Refusal) (step deep : ℕ → Refusal) (ds ls : List ℕ) → length ds ≡ length ls
    → eqb (length ds) 0 ≡ false → length ds ≤ most → table_check slices empty most long step deep ds ls ≡ bad_row step deep (first_bad ds)
unfolding table_check
sized slices empty most long step deep ds ls same some few = simp (eq-eqb _ _ same, some, le-ltb _ _ few)

-- the check of each table, by what refuses it
pub recipe_is : (ds ls : List ℕ) → table_check RecipeSlices (Err RecipeEmpty) recipe_rows RecipeLong RecipeStep RecipeDeep ds ls ≡ recipe_check ds ls
unfolding table_check recipe_check
recipe_is [] ls = refl
recipe_is (d ∷ ds) ls = simp (ne_eqb (length (d ∷ ds)) 0 (λ e. omega arith))

pub listing_is : (ds ls : List ℕ) → table_check ListingSlices (Ok tt) listing_rows ListingLong ListingStep ListingDeep ds ls ≡ listing_check ds ls
unfolding table_check listing_check check_from
listing_is [] ls = refl
listing_is (d ∷ ds) ls = simp (ne_eqb (length (d ∷ ds)) 0 (λ e. omega arith))

first_fine : (s t : Checked) → (first s t ≡ Ok tt) ↔ ((s ≡ Ok tt) × (t ≡ Ok tt))
first_fine (Ok u) t = (λ e. (refl, e), λ e. e.1)
first_fine (Err x) t = (λ e. (cc, cc), λ e. cc)

-- no refusal of 1 to 9 holds exactly where both tables are good
pub tables_fine : (rd rl td tl : List ℕ) → (tables_check rd rl td tl ≡ Ok tt) ↔ GoodTables rd rl td tl
tables_fine rd rl td tl =
    let both = first_fine (recipe_check rd rl) (listing_check td tl) in
    let recipe = recipe_fine rd rl in
    let listing = listing_fine td tl in (
      λ e.
          let r = recipe.0 (both.0 e).0 in
          let t = listing.0 (both.0 e).1 in
          record {
            recipe_slices = r.0;
            recipe_some = r.1.0;
            recipe_few = r.1.1.0;
            recipe_formed = r.1.1.1;
            listing_slices = t.0;
            listing_few = t.1.0;
            listing_formed = t.1.1;
          },
      λ g.
          both.1 (
            recipe.1 (g.recipe_slices, (g.recipe_some, (g.recipe_few, g.recipe_formed))),
            listing.1 (g.listing_slices, (g.listing_few, g.listing_formed)),
          ),
    )

-- what a check tells, by its refusal or by its being fine; and how each of its tests tells
abbrev pub told : {A : Type 0} → (Refusal → A) → A → Checked → A
told refused fine (Ok u) = fine
told refused fine (Err x) = refused x

module _ {A : Type 0} (refused : Refusal → A) (fine : A) where
  pub told_if : (b : Bool) (x : Refusal) (next : Checked) → told refused fine (refused_if b x next) ≡ elim b [ true ↦ refused x | false ↦ told refused fine next ]
  told_if true x next = refl
  told_if false x next = refl

  pub told_first : (s t : Checked) → told refused fine (first s t) ≡ told refused (told refused fine t) s
  told_first (Ok u) t = refl
  told_first (Err x) t = refl

  pub told_row : (step deep : ℕ → Refusal) (r : Result (Unit {0}) BadRow)
      → told refused fine (bad_row step deep r) ≡ elim r [ Ok u ↦ fine | Err (Step v) ↦ refused (step v) | Err (TooDeep v) ↦ refused (deep v) ]
  told_row step deep (Ok u) = refl
  told_row step deep (Err (Step v)) = refl
  told_row step deep (Err (TooDeep v)) = refl
