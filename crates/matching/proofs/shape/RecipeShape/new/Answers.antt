-- `matching::shape::RecipeShape::new` meets its contract: the words of row 0 are 0. Assumes nothing.
use Rattle.matching.proofs.Linking.{rooted}
use Rattle.matching.proofs.shape.RecipeShape.new.Goals as goal

pub returns : goal.returns
returns c = rooted
