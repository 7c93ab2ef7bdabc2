-- Two outcomes that meet a call's contract are equal, and the caller goes on with what the call leaves. Assumes nothing.
use mathlib.Core.Path.{◌≡◌, sym, ap, ◌∙◌}
use mathlib.Core.List.{List}
use Prim.Native.Nat.{ℕ}
use Rattle.std.specs.Prelude.{Ok, Err}
use Rattle.journal.specs.Lent.{Lent, lent, struck, undone}
use Rattle.journal.specs.Refusals.{Verdict, Answer, answered, settled, strike_verdict, after_strike, undo_verdict, after_undo}
use Rattle.journal.specs.Outcome.{Outcome, Meets, MeetsStrike, MeetsUndo, rows_now, entries_now, taken_over}

one_outcome : {a : Answer} {t : Lent} (o p : Outcome) → Meets o a t → Meets p a t → o ≡ p
one_outcome o p x y = same (x.answer ∙ sym y.answer) (x.depths ∙ sym y.depths) (x.labels ∙ sym y.labels) (x.journal ∙ sym y.journal)
  where
    same : {a b : Answer} {ds es ls ms js ks : List ℕ} → a ≡ b → ds ≡ es → ls ≡ ms → js ≡ ks
        → ◌≡◌ {A = Outcome} (record { answer = a; depths = ds; labels = ls; journal = js }) (record { answer = b; depths = es; labels = ms; journal = ks })
    same e f g h = cc

pub one_strike : (s : Lent) (r : ℕ) (o p : Outcome) → MeetsStrike s r o → MeetsStrike s r p → o ≡ p
one_strike s r o p x y = one_outcome o p x y

pub one_undo : (s : Lent) (o p : Outcome) → MeetsUndo s o → MeetsUndo s p → o ≡ p
one_undo s o p x y = one_outcome o p x y

same_lent : {ds es ls ms js ks : List ℕ} {n m a b : ℕ} → ds ≡ es → ls ≡ ms → n ≡ m → js ≡ ks → a ≡ b → lent ds ls n js a ≡ lent es ms m ks b
same_lent p q i j k = cc

-- a session's next state is what the caller holds after a call that meets its contract
taken : (v : Verdict) (after before : Lent) (o : Outcome) → Meets o (answered v after) (settled v after before) → taken_over before o ≡ settled v after before
taken (Ok u) after before o m =
    same_lent m.depths m.labels (ap (λ (x : Answer). rows_now x before.rows) m.answer) m.journal
    (ap (λ (x : Answer). entries_now x before.entries) m.answer)
taken (Err why) after before o m =
    same_lent m.depths m.labels (ap (λ (x : Answer). rows_now x before.rows) m.answer) m.journal
    (ap (λ (x : Answer). entries_now x before.entries) m.answer)

pub strike_taken : (s : Lent) (r : ℕ) (o : Outcome) → MeetsStrike s r o → taken_over s o ≡ after_strike s r
strike_taken s r o m = taken (strike_verdict s r) (struck s r) s o m

pub undo_taken : (s : Lent) (o : Outcome) → MeetsUndo s o → taken_over s o ≡ after_undo s
undo_taken s o m = taken (undo_verdict s) (undone s) s o m
