-- Demand 3: "After any series of strikes and undos the table is what the standing strikes make of the first one. On a yes, striking every
-- row outside the map, in any order, leaves exactly the recipe, and undoing restores the listing. On a no, no series of strikes leaves
-- the recipe." A `Series` may stop after any call, so each statement is one about the table after every step. Assumes nothing.
use Rattle.std.specs.Prelude.{◌≡◌, not, ◌⊎◌, Ok, List, [], ℕ, ◌+◌, ◌≤◌, length, take}
use Rattle.rows.specs.Rows.{Row}
use Rattle.matching.specs.declared.Answer.TheVariants as answer
use Rattle.matching.specs.declared.Corner.{Corner}
use Rattle.matching.specs.Answer.{Answers}
use Rattle.journal.specs.Entry.{room}
use Rattle.journal.specs.Lent.{Lent, used_depths, used_labels}
use Rattle.journal.specs.Refusals.{Sound}
use Rattle.journal.specs.Session.{Call, replay, left, OnlyStrikes, strikes, undos, Stands}
use Rattle.journal.specs.Kept.{mem, then_named, Distinct}
use Rattle.promises.specs.Calls.{Series}

-- the used rows of what is lent are a recipe's
abbrev pub Holds : Lent → List ℕ → List ℕ → Type 0
Holds s rd rl = (used_depths s ≡ rd) × (used_labels s ≡ rl)

-- every slot of the table, its count of rows and the count of entries are as they were
pub record Restored (before after : Lent) : Type 0 where
  pub depths : after.depths ≡ before.depths
  pub labels : after.labels ≡ before.labels
  pub rows : after.rows ≡ before.rows
  pub entries : after.entries ≡ before.entries

-- os are the rows outside the map, each once, in any order
pub record Outside (listing map os : List ℕ) : Type 0 where
  pub once : Distinct (length listing) os
  pub all : (u : ℕ) → Row listing u → mem u os ≡ not (mem u map)

-- no undo takes back a strike from before the series: the journal is empty at first, or there is no undo
abbrev pub OwnUndos : Lent → List Call → Type 0
OwnUndos s cs = (s.entries ≡ 0) ⊎ OnlyStrikes cs

pub record DemandThree : Type 0 where
  -- after any series of strikes and undos, refused ones included, the table is what the standing strikes make of the first one, oldest first, with
  -- a slot of 0 for each row struck; and the journal has the entries of just those strikes behind those that it had
  pub standing : (s t : Lent) (cs : List Call) (su : List ℕ) → Sound s → OwnUndos s cs → Series s [] cs t su
      → Stands s su t × Holds t (replay (used_depths s) su) (left (used_labels s) su)
  -- any calls can be made one after another: each has an outcome that meets its contract
  pub goes_on : (s : Lent) (st : List ℕ) (cs : List Call) → (t : Lent) × ((su : List ℕ) × Series s st cs t su)
  -- on what is not in order every call is refused, and nothing changes
  pub refused : (s t : Lent) (cs : List Call) (st su : List ℕ) → (Sound s → ⊥) → Series s st cs t su → (t ≡ s) × (su ≡ st)
  -- on a yes about the used rows: the strikes of all rows outside the map, in any order, each row named by the number that it has then,
  -- with room for their entries, leave exactly the recipe
  pub yes_leaves : (s t : Lent) (rd rl m n : List ℕ) (c : Corner) → Answers rd rl (used_depths s) (used_labels s) m (Ok (answer.Included c)) n → Sound s
      → (os : List ℕ) → Outside (used_depths s) (take (length rd) n) os → s.entries + length os ≤ room s.journal
      → (su : List ℕ) → Series s [] (strikes (then_named (length (used_depths s)) os)) t su → Holds t rd rl
  -- and as many undos after them restore the listing
  pub yes_restores : (s t u : Lent) (rd rl m n : List ℕ) (c : Corner) → Answers rd rl (used_depths s) (used_labels s) m (Ok (answer.Included c)) n → Sound s
      → (os : List ℕ) → Outside (used_depths s) (take (length rd) n) os → s.entries + length os ≤ room s.journal
      → (su sv : List ℕ) → Series s [] (strikes (then_named (length (used_depths s)) os)) t su → Series t su (undos os) u sv → Restored s u
  -- on a no about the used rows, no series of strikes leaves the recipe, with undos among them or without
  pub no_leaves : (s t : Lent) (rd rl m n : List ℕ) (c : Corner) → Answers rd rl (used_depths s) (used_labels s) m (Ok (answer.Absent c)) n → Sound s
      → (cs : List Call) → OwnUndos s cs → (su : List ℕ) → Series s [] cs t su → Holds t rd rl → ⊥
