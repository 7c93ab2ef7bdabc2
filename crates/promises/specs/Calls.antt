-- What a caller sees of a public call: what comes back, and every lent slice that the call could write. `Answers` (include), `Judged` (judge),
-- `MeetsStrike`, `MeetsUndo` and `Entry` (the C entry) say it in the crates below; here are the other two calls, and a series of calls.
-- OneOutcome has that each is exactly the call's contract. Assumes nothing.
use Rattle.std.specs.Prelude.{◌≡◌, Bool, Result, Ok, Err, List, [], ◌∷◌, ℕ}
use Rattle.matching.specs.declared.Answer.{Answer}
use Rattle.matching.specs.declared.Refusal as matching
use Rattle.parcels.specs.Read.{read_of, filled, depths_in, labels_in}
use Rattle.parcels.specs.Write.{write_of, written}
use Rattle.parcels.specs.declared.Limit.{Limit}
use Rattle.parcels.specs.declared.Rows.{Rows}
use Rattle.parcels.specs.declared.Refusal as parcels
use Rattle.journal.specs.Lent.{Lent}
use Rattle.journal.specs.Refusals as journal
use Rattle.journal.specs.Outcome.{Outcome, MeetsStrike, MeetsUndo, taken_over}
use Rattle.journal.specs.Session.{Call, strike_row, undo_last, older}

-- what comes back from `include`, `judge`, `read` and `write`: an answer, or a refusal
abbrev pub Inclusion : Type 0
Inclusion = Result Answer matching.Refusal

abbrev pub Judgement : Type 0
Judgement = Result Bool matching.Refusal

abbrev pub ReadAnswer : Type 0
ReadAnswer = Result Rows parcels.Refusal

abbrev pub WriteAnswer : Type 0
WriteAnswer = Result ℕ parcels.Refusal

-- `read`: lent the input, the place to start, the limit and two row slices, which are new_depths and new_labels afterwards
pub record Reads (bytes : List ℕ) (start : ℕ) (limit : Limit) (depths labels : List ℕ) (r : ReadAnswer) (new_depths new_labels : List ℕ) : Type 0 where
  pub answer : r ≡ read_of bytes start limit depths labels
  pub depths_after : new_depths ≡ filled r (depths_in bytes start) depths
  pub labels_after : new_labels ≡ filled r (labels_in bytes start) labels

-- `write`: lent a table's two row slices and bytes to write, which are new_bytes afterwards
pub record Writes (depths labels bytes : List ℕ) (r : WriteAnswer) (new_bytes : List ℕ) : Type 0 where
  pub answer : r ≡ write_of depths labels bytes
  pub bytes_after : new_bytes ≡ written depths labels bytes

-- the strikes standing after a call that answered so: where it was accepted the new ones, else the old ones
abbrev pub standing_now : journal.Answer → List ℕ → List ℕ → List ℕ
standing_now (Ok counts) new old = new
standing_now (Err why) new old = old

-- a series of calls of `strike` and `undo` on what is lent, each lent what the call before it left, each outcome as its contract says;
-- with the strikes standing before and after it, the newest first: the accepted ones that are not undone
pub data Series : Lent → List ℕ → List Call → Lent → List ℕ → Type 0 where
  none : {s : Lent} {st : List ℕ} → Series s st [] s st
  strike : {s t : Lent} {st su : List ℕ} {cs : List Call} (r : ℕ) (o : Outcome) → MeetsStrike s r o
      → Series (taken_over s o) (standing_now o.answer (r ∷ st) st) cs t su → Series s st (strike_row r ∷ cs) t su
  undo : {s t : Lent} {st su : List ℕ} {cs : List Call} (o : Outcome) → MeetsUndo s o
      → Series (taken_over s o) (standing_now o.answer (older st) st) cs t su → Series s st (undo_last ∷ cs) t su
