-- When a call is accepted, what it leaves then, and what refuses it. Assumes nothing.
use mathlib.Core.Path.{◌≡◌, refl, ap}
use mathlib.Core.Bool.{Bool, true, false}
use mathlib.Core.Logic.{◌↔◌}
use Prim.Native.Nat.{ℕ}
use lib.Dec.{leb, ltb}
use lib.ListN.{length}
use Rattle.std.specs.Prelude.{Result, Ok, Err}
use borrow.Author.Tests.{eqb-true, leb-true, ltb-true, eq-eqb, le-leb, lt-ltb}
use Rattle.rows.specs.declared.BadRow.{BadRow}
use Rattle.rows.proofs.FirstBad.{fine_iff}
use Rattle.journal.specs.declared.Refusal.{Refusal}
use Rattle.journal.specs.declared.Refusal.TheVariants.{NoEntries, TableFull, NeverStruck}
use Rattle.journal.specs.Entry.{may_return}
use Rattle.journal.specs.Lent.{Lent, used_depths, newest, struck, undone}
use Rattle.journal.specs.Refusals.{Verdict, settled, unless, unless_bad, and_then, journal_verdict, lent_verdict, strike_verdict, undo_verdict, after_strike, after_undo, Sound, Strikable, Returnable}

module _ (s : Lent) where
  -- of a strike and of an undo: what refuses the lent things refuses the call, and past 24 an undo's own numbers are judged
  pub denied : {why : Refusal} → lent_verdict s ≡ Err why → (r : ℕ) → strike_verdict s r ≡ Err why
  unfolding strike_verdict
  denied e r = rw e

  pub denied_undo : {why : Refusal} → lent_verdict s ≡ Err why → undo_verdict s ≡ Err why
  unfolding undo_verdict
  denied_undo e = rw e

  pub past_lent_undo : lent_verdict s ≡ Ok tt
      → undo_verdict s
      ≡ unless (leb 1 s.entries) NoEntries (unless (ltb s.rows (length s.depths)) TableFull
      (unless (may_return (used_depths s) (newest s).row (newest s).depth (newest s).below) NeverStruck (Ok tt)))
  unfolding undo_verdict
  past_lent_undo e = rw e

-- a judgement that passes has passed each test
unless_of : (b : Bool) (why : Refusal) (next : Verdict) → unless b why next ≡ Ok tt → (b ≡ true) × (next ≡ Ok tt)
unless_of true why next e = (refl, e)
unless_of false why next e = cc

unless_bad_of : (k : Result (Unit {0}) BadRow) (next : Verdict) → unless_bad k next ≡ Ok tt → (k ≡ Ok tt) × (next ≡ Ok tt)
unless_bad_of (Ok u) next e = (refl, e)
unless_bad_of (Err bad) next e = cc

and_then_of : (u next : Verdict) → and_then u next ≡ Ok tt → (u ≡ Ok tt) × (next ≡ Ok tt)
and_then_of (Ok u) next e = (refl, e)
and_then_of (Err why) next e = cc

module _ (s : Lent) where
  -- none of 21 to 24 is given just where the lent things are in order
  pub lent_iff : (lent_verdict s ≡ Ok tt) ↔ Sound s
  unfolding lent_verdict journal_verdict
  lent_iff = (
    λ e.
        let a = unless_of _ _ _ e in
        let b = unless_of _ _ _ a.1 in
        let f = unless_of _ _ _ b.1 in
        let g = unless_bad_of _ _ f.1 in
        let h = unless_of _ _ _ g.1 in
        let i = unless_of _ _ _ h.1 in
        let j = unless_of _ _ _ i.1 in
        record {
          lengths = eqb-true _ _ a.0;
          capacity = leb-true _ _ b.0;
          fits = leb-true _ _ f.0;
          rows = (fine_iff (used_depths s)).0 g.0;
          words = eqb-true _ _ h.0;
          journal = leb-true _ _ i.0;
          entries = leb-true _ _ j.0;
        },
    λ k.
        rw (
          eq-eqb _ _ k.lengths,
          le-leb _ _ k.capacity,
          le-leb _ _ k.fits,
          (fine_iff (used_depths s)).1 k.rows,
          eq-eqb _ _ k.words,
          le-leb _ _ k.journal,
          le-leb _ _ k.entries,
        ),
  )

  -- a strike of row r is accepted just where it is strikable
  pub strike_iff : (r : ℕ) → (strike_verdict s r ≡ Ok tt) ↔ Strikable s r
  unfolding strike_verdict
  strike_iff r = (
    λ e.
        let a = and_then_of _ _ e in
        let b = unless_of _ _ _ a.1 in
        let f = unless_of _ _ _ b.1 in
        let g = unless_of _ _ _ f.1 in
        record { sound = lent_iff.0 a.0; first = leb-true _ _ b.0; last = leb-true _ _ f.0; free = ltb-true _ _ g.0 },
    λ k. rw (lent_iff.1 k.sound, le-leb _ _ k.first, le-leb _ _ k.last, lt-ltb _ _ k.free),
  )

  -- an undo is accepted just where the newest row may return
  pub undo_iff : (undo_verdict s ≡ Ok tt) ↔ Returnable s
  unfolding undo_verdict
  undo_iff = (
    λ e.
        let a = and_then_of _ _ e in
        let b = unless_of _ _ _ a.1 in
        let f = unless_of _ _ _ b.1 in
        let g = unless_of _ _ _ f.1 in
        record { sound = lent_iff.0 a.0; some = leb-true _ _ b.0; free = ltb-true _ _ f.0; returns = g.0 },
    λ k. rw (lent_iff.1 k.sound, le-leb _ _ k.some, lt-ltb _ _ k.free, k.returns),
  )

  -- so what they leave is the table struck, and the table undone
  pub strike_done : (r : ℕ) → Strikable s r → after_strike s r ≡ struck s r
  strike_done r k = ap (λ (v : Verdict). settled v (struck s r) s) ((strike_iff r).1 k)

  pub undo_done : Returnable s → after_undo s ≡ undone s
  undo_done k = ap (λ (v : Verdict). settled v (undone s) s) (undo_iff.1 k)
