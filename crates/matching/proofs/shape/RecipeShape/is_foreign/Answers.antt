-- `matching::shape::RecipeShape::is_foreign` meets its contract: the bit of the label's kind is not set. Assumes nothing.
use borrow.Author.Tests.{eqb-true, eq-eqb}
use Rattle.matching.proofs.ShapeWords.{kind_of}
use Rattle.matching.proofs.shape.RecipeShape.is_foreign.Goals as goal

pub returns : goal.returns
returns c = rw (← c.self.view_is, kind_of c.self.inside.rows c.self.inside.kinds c.args.label c.self.invariant.0, c.kind_word.ensures.0, c.kind_bit.ensures)
    (eqb-true _ 0, eq-eqb _ 0)
