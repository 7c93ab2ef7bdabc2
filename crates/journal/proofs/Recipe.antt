-- On an embedding, with room in the journal: the calls that strike every row outside its image, in any order, leave the recipe in the lent slices,
-- and as many undos bring the listing back. Assumes nothing.
use mathlib.Core.Path.{◌≡◌, refl, sym, ap, subst, ◌∙◌}
use mathlib.Core.Bool.{not}
use mathlib.Core.List.{List, [], ◌∷◌}
use Prim.Native.Nat.{ℕ, suc, ◌+◌, ◌≤◌}
use native.Mathlib.Omega.{arith}
use lib.ListN.{length}
use lib.Seq.{length-take-le}
use Rattle.rows.specs.Rows.{Row, Outline}
use Rattle.rows.specs.Embedding.{SameLabel, Embedding}
use Rattle.journal.specs.Entry.{room}
use Rattle.journal.specs.Lent.{Lent, used_depths, used_labels}
use Rattle.journal.specs.Refusals.{Sound}
use Rattle.journal.specs.Session.{run, strikes, undos, Named, Stands}
use Rattle.journal.specs.Kept.{mem, then_named, Distinct}
use Rattle.journal.proofs.Sessions.{used_depths_lem, used_labels_lem, strikes_stand, undo_all, restored}
use Rattle.journal.proofs.Images.{outside_named, recipe_left, labels_left}

-- the rows os struck one by one, the last of them first, each named by the number that it has then; and as many undos after them
abbrev pub all_struck : Lent → List ℕ → Lent
all_struck s os = run (strikes (then_named (length (used_depths s)) os)) s

abbrev pub all_undone : Lent → List ℕ → Lent
all_undone s os = run (undos (then_named (length (used_depths s)) os)) (all_struck s os)

module _ (s : Lent) (k : Sound s) (rd rl m os : List ℕ) (od : Outline rd) (a : length rl ≡ length rd)
    (e : Embedding (SameLabel rl (used_labels s)) rd (used_depths s) m) (d : Distinct (length (used_depths s)) os)
    (outside : (u : ℕ) → Row (used_depths s) u → mem u os ≡ not (mem u m)) (free : s.entries + length os ≤ room s.journal) where
  abbrev named : List ℕ
  named = then_named (length (used_depths s)) os

  used : length (used_depths s) ≡ s.rows
  used = length-take-le s.rows s.depths k.fits

  labelled : length (used_labels s) ≡ length (used_depths s)
  labelled = length-take-le s.rows s.labels (omega (arith, k.fits, k.lengths)) ∙ sym used

  length_named : (os : List ℕ) → length (then_named (length (used_depths s)) os) ≡ length os
  length_named [] = refl
  length_named (o ∷ os) = ap suc (length_named os)

  all_stand : Stands s (then_named (length (used_depths s)) os) (all_struck s os)
  all_stand =
      strikes_stand s k named
      (subst (λ (n : ℕ). Named n (then_named (length (used_depths s)) os)) used
      (outside_named (SameLabel rl (used_labels s)) rd (used_depths s) m od k.rows.outline e os d outside))
      (omega (arith, length_named os))

  -- the used rows are the recipe
  pub leaves_recipe : (used_depths (all_struck s os) ≡ rd) × (used_labels (all_struck s os) ≡ rl)
  leaves_recipe = (
    used_depths_lem s k named (all_struck s os) all_stand ∙ recipe_left (SameLabel rl (used_labels s)) rd (used_depths s) m od k.rows.outline e os d outside,
    used_labels_lem s k named (all_struck s os) all_stand ∙ labels_left rd rl (used_depths s) (used_labels s) m od k.rows.outline a labelled e os d outside,
  )

  -- every slot of the table is as it was, and the counts
  pub brings_back : ((all_undone s os).depths ≡ s.depths) × ((all_undone s os).labels ≡ s.labels) × ((all_undone s os).rows ≡ s.rows)
      × ((all_undone s os).entries ≡ s.entries)
  brings_back = restored s k _ (undo_all s k named (all_struck s os) all_stand)
