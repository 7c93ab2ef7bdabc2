-- `matching::shape::RecipeShape::parent_of` meets its contract: the word is a row's parent. Assumes nothing.
use mathlib.Core.Path.{sym}
use native.Mathlib.Omega.{arith}
use Rattle.matching.proofs.ShapeWords.{has}
use Rattle.matching.proofs.shape.RecipeShape.parent_of.Goals as goal

pub returns : goal.returns
returns c = rw (← c.self.view_is) (sym (has _ _ c.args.v (omega arith)).parent)
