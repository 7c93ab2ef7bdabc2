-- `matching::shape::RecipeShape::draw` meets its contract: the rows are linked, and then the kinds noted. Assumes nothing.
use mathlib.Core.Path.{◌∙◌}
use lib.ListN.{length-set}
use Rattle.matching.proofs.KindLaws.{kinds_noted}
use Rattle.matching.proofs.Linking.{link_end}
use Rattle.matching.proofs.ShapeWords.{shape_kept}
use Rattle.matching.proofs.shape.RecipeShape.draw.Goals as goal

pub returns : goal.returns
returns c =
    let full = c.self.invariant.0 in
    let linked = link_end c.args.depths.now c.self.inside.rows c.self.inside.kinds full c.self.invariant.1 (rw c.self.view_is c.link_rows.ensures) in (
      shape_kept _ _ c.self.inside.kinds _ (length-set c.self.inside.rows 0 _ ∙ full) linked,
      kinds_noted _ _ _ (length-set c.self.inside.rows 0 _ ∙ full) c.note_kinds.ensures,
    )
