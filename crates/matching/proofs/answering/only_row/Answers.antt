-- `matching::answering::only_row` meets its contract: `contains` tells whether a row has the label. Assumes nothing.
use mathlib.Core.Bool.{Bool, true, false, false≢true}
use mathlib.Core.List.{List}
use mathlib.Core.Logic.{◌↔◌}
use mathlib.Core.Path.{◌≡◌, refl, sym, ◌∙◌}
use Prim.Native.Nat.{ℕ, zero, suc, ◌<◌, ◌≤◌}
use native.Mathlib.Omega.{arith}
use lib.ListN.{length, get_or}
use mir.Val.{bool_byte}
use Rattle.std.proofs.Common.{rules}
use Rattle.std.specs.Bool.{Decides}
use Rattle.std.specs.List.{HoldsAt}
use Rattle.std.proofs.lemmas.Bool.Decides.{Decides-eqb}
use Rattle.std.proofs.lemmas.Grind.{get_or_default_zero}
use Rattle.std.proofs.lemmas.List.Elements.{contains_decides, at_read}
use Rattle.rows.specs.Rows.{at, Row}
use Rattle.matching.proofs.answering.only_row.Goals as goal

contained : (names : List ℕ) (name asked : ℕ) (r : Bool) → asked ≡ name → Decides r ((k : ℕ) × (k < length names) × HoldsAt (λ y. y ≡ asked) names k)
    → (1 ≤ bool_byte r) ↔ ((y : ℕ) × Row names y × (name ≡ at names y))
contained names name asked true s d = (λ o. let k = d.0 refl in (suc k.0, omega arith, sym (k.2 0 ∙ s)), λ h. omega arith)
contained names name asked false s d = (λ o. absurd (omega arith), λ h. absurd (none h.0 h.1 h.2))
  where
    none : (y : ℕ) → Row names y → name ≡ at names y → ⊥
    none zero row e = omega (arith, row)
    none (suc i) row e =
        let h : i < length names = omega (arith, row) in
        false≢true (d.1 (i, h, at_read names (λ y. y ≡ asked) i (get_or names i 0) h (sym (get_or_default_zero names i _ h)) (sym (s ∙ e))))

pub returns : goal.returns
returns c = (refl, search rules, contained _ _ _ _ (search rules) (contains_decides _ Decides-eqb _ _ _ c.contains.ensures.cases))
