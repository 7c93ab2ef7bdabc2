-- The laws of a table of refusals: what a row gives, and how each kind of check follows its rows. Assumes nothing.
use mathlib.Core.Path.{◌≡◌, refl, sym, ap, subst}
use mathlib.Core.Bool.{Bool, true, false}
use mathlib.Core.List.{List}
use Prim.Native.Nat.{ℕ}
use native.Mathlib.Omega.{arith}
use Rattle.rows.specs.FirstBad.{first_bad, BadStepAt, TooDeepAt}
use Rattle.rows.specs.declared.BadRow.{BadRow}
use Rattle.rows.specs.declared.BadRow.TheVariants.{Step, TooDeep}
use Rattle.std.specs.Prelude.{Result, Ok, Err}
use Rattle.rows.proofs.FirstBad.{bad_step_iff, too_deep_iff}
use Rattle.promises.specs.Table.{Given, this, below, At, Fine}
use Rattle.promises.specs.DemandOne.{Seen, answered, refused, ByTable}

pub never : {A : Type 0} → ◌≡◌ {A = ℕ} 0 1 → A
never z = absurd (omega arith)

-- the end of the table
pub fine : ByTable Fine answered
fine k p = (λ f. absurd f, λ e. never (cc))

module _ {number : ℕ} {When : ℕ → Type 0} {Below : ℕ → ℕ → Type 0} where
  -- a row that is given, at one place
  pub given : (place : ℕ) → When place → ((q : ℕ) → When q → q ≡ place) → ByTable (Given number When Below) (refused number place)
  given place w one k p = (to k p, λ e. let f : number ≡ k = cc in let g : place ≡ p = cc in of k p f g)
    where
      to : (k p : ℕ) → Given number When Below k p → refused number place ≡ refused k p
      to k p (this v) = ap (refused number) (sym (one p v))
      to k p (below n r) = absurd (n place w)

      of : (k p : ℕ) → number ≡ k → place ≡ p → Given number When Below k p
      of k p f g = subst (λ (x : ℕ). Given number When Below x p) f (subst (λ (x : ℕ). Given number When Below number x) g (this w))

  -- a row that is not given
  pub passed : {seen : Seen} → ((q : ℕ) → When q → ⊥) → ByTable Below seen → ByTable (Given number When Below) seen
  passed {seen} n b k p = (to k p, λ e. below n ((b k p).1 e))
    where
      to : (k p : ℕ) → Given number When Below k p → seen ≡ refused k p
      to k p (this v) = absurd (n p v)
      to k p (below _ r) = (b k p).0 r

-- a row for a fact at one place, by a test of it
pub tested : {Fact : Type 0} {Below : ℕ → ℕ → Type 0} (b : Bool) (number place : ℕ) (next : Seen) → (b ≡ true → Fact) → (b ≡ false → Fact → ⊥)
    → (b ≡ false → ByTable Below next) → ByTable (Given number (At place Fact) Below) (elim b [ true ↦ refused number place | false ↦ next ])
tested true number place next y n k = given place (refl, y refl) (λ q w. w.0)
tested false number place next y n k = passed (λ q w. n refl w.1) (k refl)

-- the two rows for the first bad row of a table
abbrev pub seen_row : ℕ → ℕ → Seen → Result (Unit {0}) BadRow → Seen
seen_row step deep next (Ok u) = next
seen_row step deep next (Err (Step v)) = refused step v
seen_row step deep next (Err (TooDeep v)) = refused deep v

pub rows_judged : {Below : ℕ → ℕ → Type 0} (ds : List ℕ) (step deep : ℕ) (next : Seen) → (first_bad ds ≡ Ok tt → ByTable Below next)
    → ByTable (Given step (BadStepAt ds) (Given deep (TooDeepAt ds) Below)) (seen_row step deep next (first_bad ds))
rows_judged {Below} ds step deep next k = go (first_bad ds) refl
  where
    go : (r : Result (Unit {0}) BadRow) → first_bad ds ≡ r
        → ByTable (Given step (BadStepAt ds) (Given deep (TooDeepAt ds) Below)) (seen_row step deep next r)
    go (Ok u) e =
        passed (λ q w. let f = (bad_step_iff ds q).1 w in never (cc)) (passed (λ q w. let f = (too_deep_iff ds q).1 w in never (cc)) (k e))
    go (Err (Step v)) e = given v ((bad_step_iff ds v).0 e) (λ q w. let f = (bad_step_iff ds q).1 w in cc)
    go (Err (TooDeep v)) e =
        passed (λ q w. let f = (bad_step_iff ds q).1 w in never (cc))
        (given v ((too_deep_iff ds v).0 e) (λ q w. let f = (too_deep_iff ds q).1 w in cc))
