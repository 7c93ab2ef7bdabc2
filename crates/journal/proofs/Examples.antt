-- S1 to S3 of document 01, and what number 29 refuses: one table, checked by one theorem. Assumes nothing.
use mathlib.Core.Path.{◌≡◌, refl}
use mathlib.Core.List.{List, [], ◌∷◌}
use Prim.Native.Nat.{ℕ}
use Rattle.std.specs.Prelude.{Ok, Err}
use Rattle.rows.specs.Rows.{depth, descendants}
use Rattle.rows.specs.FirstBad.{check_from}
use Rattle.journal.specs.declared.Refusal.TheVariants.{NeverStruck}
use Rattle.journal.specs.Strike.{strike_depths}
use Rattle.journal.specs.Entry.{may_return}
use Rattle.journal.specs.Lent.{Lent, lent}
use Rattle.journal.specs.Refusals.{Answer, journal_verdict, lent_verdict, strike_verdict, strike_answer, after_strike, undo_verdict, undo_answer, after_undo}
use Rattle.journal.specs.Session.{Call, strike_row, undo_last}

-- what is lent, a call, its answer, and what it leaves
pub record Example : Type 0 where
  pub before : Lent
  pub call : Call
  pub answer : Answer
  pub after : Lent

abbrev Shown : Lent → Call → Answer → Lent → Type 0
Shown s (strike_row r) answer after = (strike_answer s r ≡ answer) × (after_strike s r ≡ after)
Shown s undo_last answer after = (undo_answer s ≡ answer) × (after_undo s ≡ after)

abbrev AllShown : List Example → Type 0
AllShown [] = Unit {0}
AllShown (x ∷ xs) = Shown x.before x.call x.answer x.after × AllShown xs

-- the chain 10(30(20)), room for one entry
abbrev chain : Lent
chain = lent (0 ∷ 1 ∷ 2 ∷ []) (10 ∷ 30 ∷ 20 ∷ []) 3 (0 ∷ 0 ∷ 0 ∷ 0 ∷ []) 0

-- 10(20), with S1's entry
abbrev shorter : Lent
shorter = lent (0 ∷ 1 ∷ 0 ∷ []) (10 ∷ 20 ∷ 0 ∷ []) 2 (2 ∷ 30 ∷ 1 ∷ 1 ∷ []) 1

-- the same with an entry that differs in its depth or its descendants alone: no strike could have written it
abbrev wrong : ℕ → ℕ → Lent
wrong d n = lent (0 ∷ 1 ∷ 0 ∷ []) (10 ∷ 20 ∷ 0 ∷ []) 2 (2 ∷ 30 ∷ d ∷ n ∷ []) 1

abbrev examples : List Example
examples =
    record { before = chain; call = strike_row 2; answer = Ok (record { rows = 2; entries = 1 }); after = shorter }
    ∷ record {
      before = chain;
      call = strike_row 1;
      answer = Ok (record { rows = 2; entries = 1 });
      after = lent (0 ∷ 1 ∷ 0 ∷ []) (30 ∷ 20 ∷ 0 ∷ []) 2 (1 ∷ 10 ∷ 0 ∷ 2 ∷ []) 1;
    }
    ∷ record { before = shorter; call = undo_last; answer = Ok (record { rows = 3; entries = 0 }); after = chain }
    ∷ record { before = wrong 2 0; call = undo_last; answer = Err NeverStruck; after = wrong 2 0 }
    ∷ record { before = wrong 0 0; call = undo_last; answer = Err NeverStruck; after = wrong 0 0 }
    ∷ record { before = wrong 1 2; call = undo_last; answer = Err NeverStruck; after = wrong 1 2 }
    ∷ []

pub s1_to_s3 : AllShown examples
unfolding check_from may_return journal_verdict lent_verdict strike_verdict undo_verdict
s1_to_s3 = ((refl, refl), ((refl, refl), ((refl, refl), ((refl, refl), ((refl, refl), ((refl, refl), tt))))))

-- the depth alone does not say which rows rise: two tables with a row of one place, label and depth, whose strikes leave the same table
pub depth_alone : (strike_depths (0 ∷ 1 ∷ 2 ∷ []) 2 ≡ strike_depths (0 ∷ 1 ∷ 1 ∷ []) 2) × (depth (0 ∷ 1 ∷ 2 ∷ []) 2 ≡ depth (0 ∷ 1 ∷ 1 ∷ []) 2)
    × (descendants (0 ∷ 1 ∷ 2 ∷ []) 2 ≡ 1) × (descendants (0 ∷ 1 ∷ 1 ∷ []) 2 ≡ 0)
depth_alone = (refl, refl, refl, refl)
