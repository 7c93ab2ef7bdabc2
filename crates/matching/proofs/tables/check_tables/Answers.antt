-- `matching::tables::check_tables` meets its contract: each table's check is document 01's. Assumes nothing.
use mathlib.Core.Path.{sym, ◌∙◌}
use Rattle.std.proofs.lemmas.Result.{err_from_is_err_and}
use Rattle.matching.specs.declared.Refusal.TheVariants.{RecipeStep, RecipeDeep, ListingStep, ListingDeep}
use Rattle.matching.proofs.Refusals.{recipe_is, listing_is}
use Rattle.matching.proofs.tables.check_tables.Goals as goal

pub returns-in_err-check : goal.returns-in_err-check
returns-in_err-check c =
    let p = err_from_is_err_and c.from_residual.result c.from_residual.ensures.1 in
    let e = c.in_err-check.ensures RecipeStep RecipeDeep (λ v x p. p) (λ v x p. p) ∙ recipe_is _ _ in
    rw (p.1, p.2, sym e)

pub returns : goal.returns
returns c =
    let r = c.in_ok-check.ensures RecipeStep RecipeDeep (λ v x p. p) (λ v x p. p) ∙ recipe_is _ _ in
    let t = c.check-2.ensures ListingStep ListingDeep (λ v x p. p) (λ v x p. p) ∙ listing_is _ _ in
    rw (sym r) t
