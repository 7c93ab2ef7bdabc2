-- Document 01, "How much the contracts must say": of each public function, that its contract asks nothing of the caller, what it says in the
-- words of document 01's definitions, and that two outcomes meeting it are equal. Here `Pre` is what a function's `requires` ask and `Post`
-- what its `ensures` say, as the prover reads them from the code. Assumes nothing.
use Rattle.std.specs.Prelude.{◌≡◌, ◌↔◌, List, [], ◌∷◌, ℕ}
use contract.Lifetimes.{Lfts}
use denote.Triple.Clauses.{AtExit}
use borrow.Fn.Kinds.{ParamKind, ResultKind, Dens, res_t, ended_of, In, Out}
use Rattle.rows.specs.Rows.{depth, descendants, last_row, closing, is_ancestor, is_left_of}
use Rattle.rows.specs.FirstBad.{first_bad}
use Rattle.rows.proofs.first_bad.Kinds as first_bad
use Rattle.rows.proofs.first_bad.Reads as first-bad-contract
use Rattle.rows.proofs.depth_of.Kinds as depth_of
use Rattle.rows.proofs.depth_of.Reads as depth-of-contract
use Rattle.rows.proofs.descendants_of.Kinds as descendants_of
use Rattle.rows.proofs.descendants_of.Reads as descendants-of-contract
use Rattle.rows.proofs.last_row_of.Kinds as last_row_of
use Rattle.rows.proofs.last_row_of.Reads as last-row-of-contract
use Rattle.rows.proofs.closing_of.Kinds as closing_of
use Rattle.rows.proofs.closing_of.Reads as closing-of-contract
use Rattle.rows.proofs.is_ancestor.Kinds as is_ancestor
use Rattle.rows.proofs.is_ancestor.Reads as is-ancestor-contract
use Rattle.rows.proofs.is_left_of.Kinds as is_left_of
use Rattle.rows.proofs.is_left_of.Reads as is-left-of-contract
use Rattle.matching.specs.Answer.{Answers}
use Rattle.matching.specs.Judge.{Judged}
use Rattle.matching.proofs.include.Kinds as include
use Rattle.matching.proofs.include.Reads as include-contract
use Rattle.matching.proofs.judge.Kinds as judge
use Rattle.matching.proofs.judge.Reads as judge-contract
use Rattle.matching.specs.Refusals.{refusal_number, refusal_place}
use Rattle.matching.proofs.Refusal.number.Kinds as matching_number
use Rattle.matching.proofs.Refusal.number.Reads as matching-number-contract
use Rattle.matching.proofs.Refusal.place.Kinds as matching_place
use Rattle.matching.proofs.Refusal.place.Reads as matching-place-contract
use Rattle.parcels.specs.Refusals.{number_of, place_of}
use Rattle.parcels.proofs.Refusal.number.Kinds as parcels_number
use Rattle.parcels.proofs.Refusal.number.Reads as parcels-number-contract
use Rattle.parcels.proofs.Refusal.place.Kinds as parcels_place
use Rattle.parcels.proofs.Refusal.place.Reads as parcels-place-contract
use Rattle.parcels.proofs.read.Kinds as read
use Rattle.parcels.proofs.read.Reads as read-contract
use Rattle.parcels.proofs.write.Kinds as write
use Rattle.parcels.proofs.write.Reads as write-contract
use Rattle.journal.specs.Lent.{lent}
use Rattle.journal.specs.Refusals as journal
use Rattle.journal.specs.Outcome.{MeetsStrike, MeetsUndo}
use Rattle.journal.proofs.Refusal.number.Kinds as journal_number
use Rattle.journal.proofs.Refusal.number.Reads as journal-number-contract
use Rattle.journal.proofs.Refusal.place.Kinds as journal_place
use Rattle.journal.proofs.Refusal.place.Reads as journal-place-contract
use Rattle.journal.proofs.strike.Kinds as strike
use Rattle.journal.proofs.strike.Reads as strike-contract
use Rattle.journal.proofs.undo.Kinds as undo
use Rattle.journal.proofs.undo.Reads as undo-contract
use Rattle.host.specs.Host.{Entry}
use Rattle.host.proofs.polashvek_answer.Kinds as entry
use Rattle.host.proofs.polashvek_answer.Reads as entry-contract
use Rattle.promises.specs.Calls.{Reads, Writes}

-- of a public function with parameters ps and result r: what its contract says of the arguments, the result and the parameters
-- at the end, and the slices that it was lent to write
pub record PublicCall {n : ℕ} (ps : List (ParamKind n)) (r : ResultKind n) (Pre : In n ps) (Post : Out n ps r) (Says : Out n ps r)
    (leaves : (κs : Lfts n) → AtExit (ended_of n ps r) κs → List (List ℕ)) : Type 0 where
  -- it takes every input
  pub takes_all : (κs : Lfts n) (a : Dens κs ps) → Pre κs a
  -- its contract says this, no more and no less
  pub says : (κs : Lfts n) (a : Dens κs ps) (x : (res_t r κs).Denot) (end : AtExit (ended_of n ps r) κs) → Post κs a x end ↔ Says κs a x end
  -- two outcomes that meet its contract are equal: what comes back, and every slice that was lent to be written
  pub one_outcome : (κs : Lfts n) (a : Dens κs ps) (x y : (res_t r κs).Denot) (end other : AtExit (ended_of n ps r) κs) → Post κs a x end → Post κs a y other
      → (x ≡ y) × (leaves κs end ≡ leaves κs other)

pub record OneOutcome : Type 0 where
  -- rows: each answer is an equation with its definition, and nothing is lent to be written
  pub first_bad : PublicCall first_bad.ps first_bad.r first-bad-contract.Pre first-bad-contract.Post (λ κs a x end. x ≡ first_bad a.0.now) (λ κs end. [])
  pub depth_of : PublicCall depth_of.ps depth_of.r depth-of-contract.Pre depth-of-contract.Post (λ κs a x end. x ≡ depth a.0.now a.1.0.0) (λ κs end. [])
  pub descendants_of : PublicCall descendants_of.ps descendants_of.r descendants-of-contract.Pre descendants-of-contract.Post
      (λ κs a x end. x ≡ descendants a.0.now a.1.0.0) (λ κs end. [])
  pub last_row_of : PublicCall last_row_of.ps last_row_of.r last-row-of-contract.Pre last-row-of-contract.Post
      (λ κs a x end. x.0 ≡ last_row a.0.now a.1.0.0) (λ κs end. [])
  pub closing_of : PublicCall closing_of.ps closing_of.r closing-of-contract.Pre closing-of-contract.Post
      (λ κs a x end. x.0 ≡ closing a.0.now a.1.0.0) (λ κs end. [])
  pub is_ancestor : PublicCall is_ancestor.ps is_ancestor.r is-ancestor-contract.Pre is-ancestor-contract.Post
      (λ κs a x end. x ≡ is_ancestor a.0.now a.1.0.0 a.1.1.0.0) (λ κs end. [])
  pub is_left_of : PublicCall is_left_of.ps is_left_of.r is-left-of-contract.Pre is-left-of-contract.Post
      (λ κs a x end. x ≡ is_left_of a.0.now a.1.0.0 a.1.1.0.0) (λ κs end. [])
  -- matching: lent the listing's depths and labels, the recipe's depths and labels, and to be written the map
  pub include : PublicCall include.ps include.r include-contract.Pre include-contract.Post
      (λ κs a x end.
      Answers a.1.1.0.now a.1.1.1.0.now a.0.now a.1.0.now a.1.1.1.1.0.now x end.1.1.1.1.0.now)
      (λ κs end. end.1.1.1.1.0.now ∷ [])
  pub judge : PublicCall judge.ps judge.r judge-contract.Pre judge-contract.Post
      (λ κs a x end. Judged a.1.1.0.now a.1.1.1.0.now a.0.now a.1.0.now x) (λ κs end. [])
  -- parcels: lent the input, and to be written the rows' depths and labels; lent a table, and to be written bytes
  pub read : PublicCall read.ps read.r read-contract.Pre read-contract.Post
      (λ κs a x end.
      Reads a.0.now a.1.0 a.1.1.0 a.1.1.1.0.now a.1.1.1.1.0.now x end.1.1.1.0.now end.1.1.1.1.0.now)
      (λ κs end. end.1.1.1.0.now ∷ end.1.1.1.1.0.now ∷ [])
  pub write : PublicCall write.ps write.r write-contract.Pre write-contract.Post
      (λ κs a x end. Writes a.0.now a.1.0.now a.1.1.0.now x end.1.1.0.now) (λ κs end. end.1.1.0.now ∷ [])
  -- the number and the place of a refusal of each of the three
  pub matching_number : PublicCall matching_number.ps matching_number.r matching-number-contract.Pre matching-number-contract.Post
      (λ κs a x end. x ≡ refusal_number a.0) (λ κs end. [])
  pub matching_place : PublicCall matching_place.ps matching_place.r matching-place-contract.Pre matching-place-contract.Post
      (λ κs a x end. x ≡ refusal_place a.0) (λ κs end. [])
  pub parcels_number : PublicCall parcels_number.ps parcels_number.r parcels-number-contract.Pre parcels-number-contract.Post
      (λ κs a x end. x ≡ number_of a.0) (λ κs end. [])
  pub parcels_place : PublicCall parcels_place.ps parcels_place.r parcels-place-contract.Pre parcels-place-contract.Post
      (λ κs a x end. x ≡ place_of a.0) (λ κs end. [])
  pub number_of : PublicCall journal_number.ps journal_number.r journal-number-contract.Pre journal-number-contract.Post
      (λ κs a x end. x ≡ journal.number a.0) (λ κs end. [])
  pub place_of : PublicCall journal_place.ps journal_place.r journal-place-contract.Pre journal-place-contract.Post
      (λ κs a x end. x ≡ journal.place a.0) (λ κs end. [])
  -- journal, lent to be written: the table's depths and labels, and the journal
  pub strike : PublicCall strike.ps strike.r strike-contract.Pre strike-contract.Post
      (λ κs a x end.
      MeetsStrike (lent a.0.now a.1.0.now a.1.1.0 a.1.1.1.0.now a.1.1.1.1.0) a.1.1.1.1.1.0
      (record { answer = x; depths = end.0.now; labels = end.1.0.now; journal = end.1.1.1.0.now }))
      (λ κs end. end.0.now ∷ end.1.0.now ∷ end.1.1.1.0.now ∷ [])
  pub undo : PublicCall undo.ps undo.r undo-contract.Pre undo-contract.Post
      (λ κs a x end.
      MeetsUndo (lent a.0.now a.1.0.now a.1.1.0 a.1.1.1.0.now a.1.1.1.1.0)
      (record { answer = x; depths = end.0.now; labels = end.1.0.now; journal = end.1.1.1.0.now }))
      (λ κs end. end.0.now ∷ end.1.0.now ∷ end.1.1.1.0.now ∷ [])
  -- the C entry: lent the input, and to be written the answer buffer
  pub entry : PublicCall entry.ps entry.r entry-contract.Pre entry-contract.Post
      (λ κs a x end. Entry a.0.now a.1.0.now x end.1.0.now) (λ κs end. end.1.0.now ∷ [])
