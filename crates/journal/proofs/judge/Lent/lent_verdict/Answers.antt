-- `journal::judge::Lent::lent_verdict` meets its contract: past its tests what is lent is in order. Assumes nothing.
use mathlib.Core.Path.{◌∙◌, sym}
use native.Mathlib.Omega.{arith}
use Rattle.rows.proofs.FirstBad.{fine_iff}
use Rattle.journal.proofs.judge.Lent.lent_verdict.Goals as goal

pub returns-clause-sound : goal.returns-clause-sound
returns-clause-sound c = record {
  lengths = c.if-self.false;
  capacity = c.if-self-gt-LISTING_ROWS.false;
  fits = c.if-self-2.false;
  rows = (fine_iff _).0 (sym c.first_bad.ensures ∙ c.in_ok-first_bad.was);
  words = c.if-self-ne0.false;
  journal = c.if-self-gt-JOURNAL_WORDS.false;
  entries = omega (arith, c.room.ensures);
}
