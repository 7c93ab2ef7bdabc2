-- One input has one line, and one call of the C entry one outcome. Assumes nothing.
use mathlib.Core.Path.{◌≡◌, refl, sym, ap, subst₂, ◌∙◌}
use mathlib.Core.Bool.{Bool, true, false}
use mathlib.Core.List.{List, ◌++◌}
use mathlib.Core.Logic.{◌↔◌}
use Prim.Native.Nat.{ℕ, ◌≤◌}
use contract.Lifetimes.{Lfts}
use denote.Triple.Clauses.{AtExit}
use borrow.Fn.Kinds.{Dens, res_t, ended_of}
use lib.Dec.{ltb}
use lib.ListN.{length, drop}
use borrow.Author.Tests.{le-ltb}
use Rattle.rows.specs.Limits.{recipe_rows}
use Rattle.std.specs.Prelude.{Result, Ok, Err}
use Rattle.parcels.specs.declared.Refusal as parcel
use Rattle.parcels.specs.declared.Rows.{Rows}
use Rattle.matching.proofs.AnswerLaws.{answer_one}
use Rattle.host.specs.Outcome.{zeros, recipe_read, listing_read, outcome_of, RefusedAs, FromTables, FromListing, FromRecipe, Said}
use Rattle.host.specs.Host.{line_of, answer_bytes, LineIs, Entered, Entry}
use Rattle.host.specs.declared.outcome.Outcome.{Outcome}
use Rattle.host.specs.declared.outcome.Refusal.{Refusal}
use Rattle.host.proofs.polashvek_answer.Kinds as entry
use Rattle.host.proofs.polashvek_answer.Reads as entry-contract

-- two outcomes with their maps
module _ (o p : Result Outcome Refusal) (m k : List ℕ) where
  refusal_one : (x : Refusal) → RefusedAs x o m → RefusedAs x p k → (o ≡ p) × (m ≡ k)
  refusal_one x f g = (f.0 ∙ sym g.0, f.1 ∙ sym g.1)

  tables_one : (rd rl td tl : List ℕ) (end : ℕ) (b : Bool) → FromTables rd rl td tl end b o m → FromTables rd rl td tl end b p k → (o ≡ p) × (m ≡ k)
  tables_one rd rl td tl end true f g = refusal_one _ f g
  tables_one rd rl td tl end false f g =
      let same = answer_one rd rl td tl (zeros recipe_rows) f.0 g.0 m k f.1 g.1 in
      (f.2 ∙ ap (outcome_of (length rd)) same.0 ∙ sym g.2, same.1)

  listing_one : (input rd rl : List ℕ) (start : ℕ) (a : Result Rows parcel.Refusal) → FromListing input rd rl start a o m → FromListing input rd rl start a p k → (o ≡ p) × (m ≡ k)
  listing_one input rd rl start (Err x) f g = refusal_one _ f g
  listing_one input rd rl start (Ok rows) f g = tables_one rd rl _ _ rows.next (ltb rows.next (length input)) f g

  recipe_one : (input : List ℕ) (a : Result Rows parcel.Refusal) → FromRecipe input a o m → FromRecipe input a p k → (o ≡ p) × (m ≡ k)
  recipe_one input (Err x) f g = refusal_one _ f g
  recipe_one input (Ok rows) f g = listing_one input _ _ rows.next (listing_read input rows.next) f g

  -- one thing is said of an input, with one map
  pub said_one : (input : List ℕ) → Said input o m → Said input p k → (o ≡ p) × (m ≡ k)
  said_one input f g = recipe_one input (recipe_read input) f.by_reading g.by_reading

-- an input has one line
pub line_one : (input x y : List ℕ) → LineIs input x → LineIs input y → x ≡ y
line_one input x y f g =
    let same = said_one f.outcome g.outcome f.map g.map input f.said g.said in
    f.line ∙ ap (λ (o : Result Outcome Refusal). line_of o f.map) same.0 ∙ ap (λ (m : List ℕ). line_of g.outcome m) same.1 ∙ sym g.line

-- a call of the C entry has one answer and leaves one buffer
pub entry_one : (input before : List ℕ) (r s : ℕ) (x y : List ℕ) → Entry input before r x → Entry input before s y → (r ≡ s) × (x ≡ y)
entry_one input before r s x y e d = go (ltb (length before) answer_bytes) e.by_room d.by_room
  where
    go : (b : Bool) → Entered b input before r x → Entered b input before s y → (r ≡ s) × (x ≡ y)
    go true f g = (f.0 ∙ sym g.0, f.1 ∙ sym g.1)
    go false f g =
        let same = line_one input f.bytes g.bytes f.line g.line in
        (f.count ∙ ap length same ∙ sym g.count, f.stored ∙ ap (λ (l : List ℕ). l ++ drop (length l) before) same ∙ sym g.stored)

-- where the buffer has room, an outcome is right just if it is the input's line
pub entry_is : (input xs : List ℕ) → LineIs input xs → (buffer : List ℕ) → answer_bytes ≤ length buffer → (r : ℕ) (n : List ℕ)
    → Entry input buffer r n ↔ ((r ≡ length xs) × (n ≡ xs ++ drop (length xs) buffer))
entry_is input xs l buffer h r n =
    let k : Entry input buffer (length xs) (xs ++ drop (length xs) buffer) =
    record { by_room = rw (le-ltb (length buffer) answer_bytes h) (record { bytes = xs; line = l; count = refl; stored = refl }) } in
    (λ e. entry_one input buffer r (length xs) n (xs ++ drop (length xs) buffer) e k, λ e. subst₂ (Entry input buffer) (sym e.0) (sym e.1) k)

-- so two outcomes that meet the contract of `polashvek_answer` are equal: the answer, and every byte of the buffer
pub one_answer : (κs : Lfts 2) (args : Dens κs entry.ps) (r s : (res_t entry.r κs).Denot) (x y : AtExit (ended_of 2 entry.ps entry.r) κs)
    → entry-contract.Post κs args r x → entry-contract.Post κs args s y → (r ≡ s) × (x.1.0.now ≡ y.1.0.now)
one_answer κs args r s x y p q = entry_one args.0.now args.1.0.now r s x.1.0.now y.1.0.now p q
