-- Number 29 is given exactly when no well-formed table has a row as the newest entry says whose strike leaves the present table. Assumes nothing.
use mathlib.Core.Path.{◌≡◌, refl, sym, ◌∙◌}
use mathlib.Core.Bool.{Bool, true, false}
use mathlib.Core.Logic.{◌↔◌}
use Prim.Native.Nat.{◌%◌, ◌≤◌, ◌<◌}
use native.Mathlib.Omega.{arith}
use lib.Dec.{leb, ltb, eqb}
use lib.ListN.{length}
use lib.Seq.{length-take-le}
use Rattle.std.specs.Prelude.{Result, Ok, Err}
use borrow.Author.Tests.{leb-true, ltb-true, le-leb, lt-ltb}
use Rattle.rows.specs.Limits.{listing_rows}
use Rattle.rows.specs.FirstBad.{first_bad}
use Rattle.rows.specs.declared.BadRow.{BadRow}
use Rattle.rows.specs.declared.BadRow.TheVariants.{Step, TooDeep}
use Rattle.journal.specs.declared.Refusal.TheVariants.{TableSlices, RowCount, JournalSlice, NoEntries, TableFull, NeverStruck}
use Rattle.journal.specs.Entry.{entry_words, room, Undoable, may_return}
use Rattle.journal.specs.Lent.{Lent, used_depths, used_labels, newest}
use Rattle.journal.specs.Refusals.{Verdict, journal_words, unless, unless_bad, and_then, journal_verdict, lent_verdict, undo_verdict, Sound}
use Rattle.journal.proofs.Returns.{undoable_iff}
use Rattle.journal.proofs.Verdicts.{lent_iff, past_lent_undo}

-- 29 is none of 21 to 24
not_lent : (s : Lent) → lent_verdict s ≡ Err NeverStruck → ⊥
unfolding lent_verdict journal_verdict
not_lent s =
    go (eqb (length s.depths) (length s.labels)) (leb (length s.depths) listing_rows) (leb s.rows (length s.depths)) (first_bad (used_depths s))
    (eqb (length s.journal % entry_words) 0) (leb (length s.journal) journal_words) (leb s.entries (room s.journal))
  where
    go : (a b c : Bool) (k : Result (Unit {0}) BadRow) (d e f : Bool)
        → unless a TableSlices
        (unless b TableSlices (unless c RowCount (unless_bad k (unless d JournalSlice (unless e JournalSlice (unless f JournalSlice (Ok tt)))))))
        ≡ Err NeverStruck → ⊥
    go false b c k d e f p = cc
    go true false c k d e f p = cc
    go true true false k d e f p = cc
    go true true true (Err (Step v)) d e f p = cc
    go true true true (Err (TooDeep v)) d e f p = cc
    go true true true (Ok u) false e f p = cc
    go true true true (Ok u) true false f p = cc
    go true true true (Ok u) true true false p = cc
    go true true true (Ok u) true true true p = cc

-- .. nor 27 or 28: all tests before its own were passed
passed : (u : Verdict) (a b c : Bool) → (u ≡ Err NeverStruck → ⊥) → and_then u (unless a NoEntries (unless b TableFull (unless c NeverStruck (Ok tt))))
    ≡ Err NeverStruck
    → (u ≡ Ok tt) × (a ≡ true) × (b ≡ true) × (c ≡ false)
passed (Err why) a b c n e = absurd (n e)
passed (Ok u) false b c n e = cc
passed (Ok u) true false c n e = cc
passed (Ok u) true true true n e = cc
passed (Ok u) true true false n e = (refl, refl, refl, refl)

-- what number 29 says
pub record NoSuchStrike (s : Lent) : Type 0 where
  pub sound : Sound s
  pub some : 1 ≤ s.entries
  pub free : s.rows < length s.depths
  pub none : Undoable (newest s) (used_depths s) (used_labels s) → ⊥

pub never_struck_iff : (s : Lent) → (undo_verdict s ≡ Err NeverStruck) ↔ NoSuchStrike s
unfolding undo_verdict
never_struck_iff s = (to, of)
  where
    used : Sound s → length (used_labels s) ≡ length (used_depths s)
    used k =
        length-take-le s.rows s.labels (omega (arith, k.fits, k.lengths)) ∙ sym (length-take-le s.rows s.depths k.fits)

    to : undo_verdict s ≡ Err NeverStruck → NoSuchStrike s
    to e =
        let a = passed (lent_verdict s) (leb 1 s.entries) (ltb s.rows (length s.depths))
        (may_return (used_depths s) (newest s).row (newest s).depth (newest s).below) (not_lent s) e in
        let k = (lent_iff s).0 a.0 in
        record {
          sound = k;
          some = leb-true _ _ a.1;
          free = ltb-true _ _ a.2;
          none = λ u.
              let t = (undoable_iff (used_depths s) (used_labels s) (newest s) (used k)).1 u in cc (sym t ∙ a.3);
        }

    of : NoSuchStrike s → undo_verdict s ≡ Err NeverStruck
    of n =
        past_lent_undo s ((lent_iff s).1 n.sound)
        ∙ (rw (le-leb _ _ n.some, lt-ltb _ _ n.free, no (may_return (used_depths s) (newest s).row (newest s).depth (newest s).below) refl))
      where
        no : (b : Bool) → may_return (used_depths s) (newest s).row (newest s).depth (newest s).below ≡ b
            → may_return (used_depths s) (newest s).row (newest s).depth (newest s).below ≡ false
        no true e = absurd (n.none ((undoable_iff (used_depths s) (used_labels s) (newest s) (used n.sound)).0 e))
        no false e = e
