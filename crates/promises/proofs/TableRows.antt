-- Each call's checks follow document 01's table: of the two tables, of a parcel read and written, and of what strike and undo are lent. Assumes nothing.
use mathlib.Core.Path.{◌≡◌, refl, sym, ◌∙◌}
use mathlib.Core.Bool.{Bool, true, false, not}
use mathlib.Core.Logic.{◌↔◌}
use mathlib.Core.List.{List}
use Prim.Native.Nat.{ℕ, ◌%◌, ◌<◌}
use native.Mathlib.Omega.{arith}
use lib.Dec.{eqb, leb, ltb}
use lib.ListN.{length}
use lib.Seq.{length-take-le}
use borrow.Author.Tests.{ltb-true, ltb-false, leb-true, leb-false, eqb-true, eqb-false, not-true, not-false}
use Rattle.rows.specs.Limits.{recipe_rows, listing_rows}
use Rattle.rows.specs.FirstBad.{BadStepAt, TooDeepAt}
use Rattle.rows.specs.declared.BadRow.{BadRow}
use Rattle.rows.specs.declared.BadRow.TheVariants.{Step, TooDeep}
use Rattle.std.specs.Prelude.{Result, Ok, Err}
use Rattle.rows.proofs.FirstBad.{fine_iff}
use Rattle.matching.specs.declared.Refusal as matching
use Rattle.matching.specs.Refusals.{refusal_number, refusal_place, recipe_check, listing_check, tables_check}
use Rattle.matching.specs.Answer.{include_check}
use Rattle.matching.proofs.Refusals.{told, told_if, told_first, told_row}
use Rattle.journal.specs.declared.Refusal.{Refusal}
use Rattle.journal.specs.Entry.{entry_words, room, Undoable, may_return}
use Rattle.journal.specs.Lent.{Lent, used_depths, used_labels, newest}
use Rattle.journal.specs.Refusals as journal
use Rattle.journal.proofs.Returns.{undoable_iff}
use Rattle.promises.specs.Table.{Given, At, TablesRows, IncludeTable, LentRows, StrikeTable, UndoTable}
use Rattle.promises.specs.DemandOne.{Seen, answered, refused, ByTable}
use Rattle.promises.proofs.ByTable.{never, fine, given, passed, tested, seen_row, rows_judged}

-- 1 to 9, and 10
abbrev pub seen_table : matching.Refusal → Seen
seen_table x = refused (refusal_number x) (refusal_place x)

module _ (ds ls : List ℕ) {Below : ℕ → ℕ → Type 0} (next : Seen) (k : ByTable Below next) where
  recipe_rows_lem : ByTable (Given 1 (At 0 (length ds ≡ length ls → ⊥)) (Given 2 (At 0 (length ds ≡ 0)) (Given 3 (At 0 (recipe_rows < length ds))
      (Given 4 (BadStepAt ds) (Given 5 (TooDeepAt ds) Below))))) (told seen_table next (recipe_check ds ls))
  unfolding recipe_check
  recipe_rows_lem =
      rw told_if
      (tested (not (eqb (length ds) (length ls))) 1 0 _ (λ e. eqb-false _ _ (not-true _ e)) (λ e f. f (eqb-true _ _ (not-false _ e))) (λ e.
      rw told_if
      (tested (eqb (length ds) 0) 2 0 _ (eqb-true _ _) (eqb-false _ _) (λ e.
      rw told_if
      (tested (ltb recipe_rows (length ds)) 3 0 _ (ltb-true _ _) (λ e h. omega (arith, ltb-false recipe_rows (length ds) e)) (λ e.
      rw told_row (rows_judged ds 4 5 next (λ _. k))))))))

  listing_rows_lem : ByTable (Given 6 (At 0 (length ds ≡ length ls → ⊥)) (Given 7 (At 0 (listing_rows < length ds))
      (Given 8 (BadStepAt ds) (Given 9 (TooDeepAt ds) Below)))) (told seen_table next (listing_check ds ls))
  unfolding listing_check
  listing_rows_lem =
      rw told_if
      (tested (not (eqb (length ds) (length ls))) 6 0 _ (λ e. eqb-false _ _ (not-true _ e)) (λ e f. f (eqb-true _ _ (not-false _ e))) (λ e.
      rw told_if
      (tested (ltb listing_rows (length ds)) 7 0 _ (ltb-true _ _) (λ e h. omega (arith, ltb-false listing_rows (length ds) e)) (λ e.
      rw told_row (rows_judged ds 8 9 next (λ _. k))))))

pub tables_rows : (rd rl td tl : List ℕ) {Below : ℕ → ℕ → Type 0} (next : Seen) → ByTable Below next
    → ByTable (TablesRows rd rl td tl Below) (told seen_table next (tables_check rd rl td tl))
tables_rows rd rl td tl next k = rw told_first (recipe_rows_lem rd rl _ (listing_rows_lem td tl next k))

pub include_rows : (rd rl td tl m : List ℕ) → ByTable (IncludeTable rd rl td tl m) (told seen_table answered (include_check rd rl td tl m))
include_rows rd rl td tl m =
    rw told_first
    (tables_rows rd rl td tl _
    (rw told_if (tested (ltb (length m) (length rd)) 10 0 _ (ltb-true _ _) (λ e h. omega (arith, ltb-false (length m) (length rd) e)) (λ e. fine))))

-- 21 to 29
abbrev pub seen_verdict : journal.Verdict → Seen → Seen
seen_verdict (Ok u) next = next
seen_verdict (Err x) next = refused (journal.number x) (journal.place x)

unless_rows : {Fact : Type 0} {Below : ℕ → ℕ → Type 0} (b : Bool) (why : Refusal) (v : journal.Verdict) (next : Seen) → (b ≡ false → Fact) → (b ≡ true → Fact → ⊥)
    → (b ≡ true → ByTable Below (seen_verdict v next))
    → ByTable (Given (journal.number why) (At (journal.place why) Fact) Below) (seen_verdict (journal.unless b why v) next)
unless_rows true why v next y n k = passed (λ q w. n refl w.1) (k refl)
unless_rows false why v next y n k = given (journal.place why) (refl, y refl) (λ q w. w.0)

then_seen : (u v : journal.Verdict) (next : Seen) → seen_verdict (journal.and_then u v) next ≡ seen_verdict u (seen_verdict v next)
then_seen (Ok u) v next = refl
then_seen (Err why) v next = refl

-- 23: the first bad row, for its step or its depth
bad_seen : (r : Result (Unit {0}) BadRow) (v : journal.Verdict) (next : Seen)
    → seen_verdict (journal.unless_bad r v) next ≡ seen_row 23 23 (seen_verdict v next) r
bad_seen (Ok u) v next = refl
bad_seen (Err (Step u)) v next = refl
bad_seen (Err (TooDeep u)) v next = refl

module _ (s : Lent) where
  lent_rows : {Below : ℕ → ℕ → Type 0} (next : Seen) → (journal.Sound s → ByTable Below next) → ByTable (LentRows s Below) (seen_verdict (journal.lent_verdict s) next)
  unfolding journal.lent_verdict journal.journal_verdict
  lent_rows next k =
      unless_rows (eqb (length s.depths) (length s.labels)) _ _ next (eqb-false _ _) (λ e f. f (eqb-true _ _ e)) (λ a.
      unless_rows (leb (length s.depths) listing_rows) _ _ next (leb-false _ _) (λ e h. omega (arith, leb-true (length s.depths) listing_rows e)) (λ b.
      unless_rows (leb s.rows (length s.depths)) _ _ next (leb-false _ _) (λ e h. omega (arith, leb-true s.rows (length s.depths) e)) (λ c.
      rw bad_seen (rows_judged (used_depths s) 23 23 _ (λ d.
      unless_rows (eqb (length s.journal % entry_words) 0) _ _ next (eqb-false _ _) (λ e f. f (eqb-true _ _ e)) (λ e.
      unless_rows (leb (length s.journal) journal.journal_words) _ _ next (leb-false _ _)
      (λ e h. omega (arith, leb-true (length s.journal) journal.journal_words e)) (λ f.
      unless_rows (leb s.entries (room s.journal)) _ _ next (leb-false _ _) (λ e h. omega (arith, leb-true s.entries (room s.journal) e)) (λ g.
      k (record {
        lengths = eqb-true _ _ a;
        capacity = leb-true _ _ b;
        fits = leb-true _ _ c;
        rows = (fine_iff (used_depths s)).0 d;
        words = eqb-true _ _ e;
        journal = leb-true _ _ f;
        entries = leb-true _ _ g;
      })))))))))

  pub strike_rows : (r : ℕ) → ByTable (StrikeTable s r) (seen_verdict (journal.strike_verdict s r) answered)
  unfolding journal.strike_verdict
  strike_rows r =
      rw then_seen (lent_rows _ (λ _.
      unless_rows (leb 1 r) _ _ answered (leb-false _ _) (λ e h. omega (arith, leb-true 1 r e)) (λ _.
      unless_rows (leb r s.rows) _ _ answered (leb-false _ _) (λ e h. omega (arith, leb-true r s.rows e)) (λ _.
      unless_rows (ltb s.entries (room s.journal)) _ _ answered (ltb-false _ _)
      (λ e h. omega (arith, ltb-true s.entries (room s.journal) e)) (λ _. fine)))))

  pub undo_rows : ByTable (UndoTable s) (seen_verdict (journal.undo_verdict s) answered)
  unfolding journal.undo_verdict
  undo_rows =
      rw then_seen (lent_rows _ (λ k.
      unless_rows (leb 1 s.entries) _ _ answered (λ e. omega (arith, leb-false 1 s.entries e)) (λ e h. omega (arith, leb-true 1 s.entries e)) (λ _.
      unless_rows (ltb s.rows (length s.depths)) _ _ answered (λ e. omega (arith, ltb-false s.rows (length s.depths) e, k.fits))
      (λ e h. omega (arith, ltb-true s.rows (length s.depths) e)) (λ _.
      unless_rows (may_return (used_depths s) (newest s).row (newest s).depth (newest s).below) _ _ answered
      (λ e u. let f = (undoable k).1 u in never (cc)) (λ e n. n ((undoable k).0 e)) (λ _. fine)))))
    where
      undoable : journal.Sound s → (may_return (used_depths s) (newest s).row (newest s).depth (newest s).below ≡ true) ↔ Undoable (newest s) (used_depths s) (used_labels s)
      undoable k =
          undoable_iff (used_depths s) (used_labels s) (newest s)
          (length-take-le s.rows s.labels (omega (arith, k.fits, k.lengths)) ∙ sym (length-take-le s.rows s.depths k.fits))
