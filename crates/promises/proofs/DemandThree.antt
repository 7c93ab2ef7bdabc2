-- Demand 3 holds: a series of calls that meet their contracts is a session of `journal`, whose laws say the rest. Assumes nothing.
use mathlib.Core.Path.{◌≡◌, refl, sym, ap, ap₂, subst, ◌∙◌}
use mathlib.Core.Logic.{inl, inr}
use mathlib.Core.List.{List, [], ◌∷◌}
use Prim.Native.Nat.{ℕ, ◌+◌, ◌≤◌}
use native.Mathlib.Omega.{arith}
use lib.ListN.{length, take}
use lib.Seq.{length-take-le}
use Rattle.rows.specs.Embedding.{SameLabel, Embedding}
use Rattle.std.specs.Prelude.{Ok, Err}
use Rattle.matching.specs.declared.Answer.TheVariants as answer
use Rattle.matching.specs.declared.Corner.{Corner}
use Rattle.matching.specs.Answer.{Answers}
use Rattle.matching.proofs.Verdict.{yes_good, yes_embeds, no_excluded}
use Rattle.journal.specs.declared.Refusal.{Refusal}
use Rattle.journal.specs.Entry.{room}
use Rattle.journal.specs.Lent.{Lent, used_depths, used_labels, struck, undone}
use Rattle.journal.specs.Refusals.{Verdict, Answer, lent_verdict, strike_verdict, undo_verdict, answered, settled, strike_answer, after_strike, undo_answer, after_undo, Sound}
use Rattle.journal.specs.Session.{Call, strike_row, undo_last, run, accepted, older, standing, strikes, undos, Stands}
use Rattle.journal.specs.Kept.{then_named}
use Rattle.journal.specs.Outcome.{Outcome, taken_over}
use Rattle.journal.proofs.Verdicts.{lent_iff, denied, denied_undo}
use Rattle.journal.proofs.Outcomes.{strike_taken, undo_taken}
use Rattle.journal.proofs.Sessions as sessions
use Rattle.journal.proofs.Images.{left_included}
use Rattle.journal.proofs.Recipe.{all_struck, leaves_recipe, brings_back}
use Rattle.promises.specs.Calls.{standing_now, Series, none, strike, undo}
use Rattle.promises.specs.DemandThree.{Holds, Restored, Outside, OwnUndos, DemandThree}
use Rattle.promises.proofs.DemandTwo.{front_map}

-- the strikes standing by the answers are those standing by the judgements
by_answer : (v : Verdict) (after : Lent) (a : Answer) (new old : List ℕ) → a ≡ answered v after → standing_now a new old ≡ accepted v new old
by_answer (Ok u) after a new old e = ap (λ (x : Answer). standing_now x new old) e
by_answer (Err why) after a new old e = ap (λ (x : Answer). standing_now x new old) e

-- a series leaves what its calls leave one after another
session : {s t : Lent} {st su : List ℕ} (cs : List Call) → Series s st cs t su → (t ≡ run cs s) × (su ≡ standing cs s st)
session [] none = (refl, refl)
session {s} {t} {st} (strike_row q ∷ cs) (strike r o m k) =
    let i = session cs k in
    let e = strike_taken s r o m in
    (i.0 ∙ ap (run cs) e, i.1 ∙ ap₂ (standing cs) e (by_answer (strike_verdict s r) (struck s r) o.answer (r ∷ st) st m.answer))
session {s} {t} {st} (undo_last ∷ cs) (undo o m k) =
    let i = session cs k in
    let e = undo_taken s o m in
    (i.0 ∙ ap (run cs) e, i.1 ∙ ap₂ (standing cs) e (by_answer (undo_verdict s) (undone s) o.answer (older st) st m.answer))

-- any calls make a series
made : (s : Lent) (st : List ℕ) (cs : List Call) → (t : Lent) × ((su : List ℕ) × Series s st cs t su)
made s st [] = (s, (st, none))
made s st (strike_row r ∷ cs) =
    let t = after_strike s r in
    let o : Outcome = record { answer = strike_answer s r; depths = t.depths; labels = t.labels; journal = t.journal } in
    let i = made (taken_over s o) (standing_now (strike_answer s r) (r ∷ st) st) cs in
    (i.0, (i.1.0, strike r o (record { answer = refl; depths = refl; labels = refl; journal = refl }) i.1.1))
made s st (undo_last ∷ cs) =
    let t = after_undo s in
    let o : Outcome = record { answer = undo_answer s; depths = t.depths; labels = t.labels; journal = t.journal } in
    let i = made (taken_over s o) (standing_now (undo_answer s) (older st) st) cs in
    (i.0, (i.1.0, undo o (record { answer = refl; depths = refl; labels = refl; journal = refl }) i.1.1))

-- what is not in order is refused
not_lent : (s : Lent) → (Sound s → ⊥) → (why : Refusal) × (lent_verdict s ≡ Err why)
not_lent s n = go (lent_verdict s) refl
  where
    go : (v : Verdict) → lent_verdict s ≡ v → (why : Refusal) × (lent_verdict s ≡ Err why)
    go (Ok u) e = absurd (n ((lent_iff s).0 e))
    go (Err why) e = (why, e)

unchanged : {s t : Lent} {st su : List ℕ} {cs : List Call} → (Sound s → ⊥) → Series s st cs t su → (t ≡ s) × (su ≡ st)
unchanged n none = (refl, refl)
unchanged {s} {t} {st} n (strike r o m k) =
    let d = not_lent s n in
    let v = denied s d.1 r in
    let e = strike_taken s r o m ∙ ap (λ (x : Verdict). settled x (struck s r) s) v in
    let i = unchanged (λ h. n (subst Sound e h)) k in
    (i.0 ∙ e, i.1 ∙ by_answer (strike_verdict s r) (struck s r) o.answer (r ∷ st) st m.answer ∙ ap (λ (x : Verdict). accepted x (r ∷ st) st) v)
unchanged {s} {t} {st} n (undo o m k) =
    let d = not_lent s n in
    let v = denied_undo s d.1 in
    let e = undo_taken s o m ∙ ap (λ (x : Verdict). settled x (undone s) s) v in
    let i = unchanged (λ h. n (subst Sound e h)) k in
    (i.0 ∙ e, i.1 ∙ by_answer (undo_verdict s) (undone s) o.answer (older st) st m.answer ∙ ap (λ (x : Verdict). accepted x (older st) st) v)

stands : {s t : Lent} (cs : List Call) {su : List ℕ} → Sound s → OwnUndos s cs → Series s [] cs t su → Stands s su t
stands {s} cs k (inl z) c = let e = session cs c in rw (e.0, e.1) (sessions.demand_three s k z cs).0
stands {s} cs k (inr o) c = let e = session cs c in rw (e.0, e.1) (sessions.only_strikes s k cs o [] s (sessions.none_stands s k))

-- as many undos, whatever the rows are called
undos_named : (n : ℕ) (os : List ℕ) → undos os ≡ undos (then_named n os)
undos_named n [] = refl
undos_named n (o ∷ os) = ap (λ (cs : List Call). undo_last ∷ cs) (undos_named n os)

-- on a yes the map that was written is an embedding in the used rows
module _ (s : Lent) (rd rl m n : List ℕ) (c : Corner) (a : Answers rd rl (used_depths s) (used_labels s) m (Ok (answer.Included c)) n) (k : Sound s) (os : List ℕ)
    (out : Outside (used_depths s) (take (length rd) n) os) (free : s.entries + length os ≤ room s.journal) where
  embeds : Embedding (SameLabel rl (used_labels s)) rd (used_depths s) (take (length rd) n)
  embeds = rw (front_map rd rl (used_depths s) (used_labels s) m n c a) (yes_embeds rd rl (used_depths s) (used_labels s) m c n a)

  leaves : {t : Lent} {su : List ℕ} → Series s [] (strikes (then_named (length (used_depths s)) os)) t su → Holds t rd rl
  leaves c' =
      let g = yes_good rd rl (used_depths s) (used_labels s) m c n a in
      rw (session _ c').0 (leaves_recipe s k rd rl (take (length rd) n) os g.recipe_formed.outline (sym g.recipe_slices) embeds out.once out.all free)

  restores : {t u : Lent} {su sv : List ℕ} → Series s [] (strikes (then_named (length (used_depths s)) os)) t su → Series t su (undos os) u sv → Restored s u
  restores {t} {u} c' d =
      let g = yes_good rd rl (used_depths s) (used_labels s) m c n a in
      let b = brings_back s k rd rl (take (length rd) n) os g.recipe_formed.outline (sym g.recipe_slices) embeds out.once out.all free in
      let e : u ≡ run (undos (then_named (length (used_depths s)) os)) (all_struck s os) =
      (session _ d).0 ∙ ap₂ run (undos_named (length (used_depths s)) os) (session _ c').0 in
      rw e (record { depths = b.0; labels = b.1; rows = b.2; entries = b.3 })

pub demand_three : DemandThree
demand_three =
    record {
      standing = λ s t cs su k z c.
          let h = stands cs k z c in (h, (sessions.used_depths_lem s k su t h, sessions.used_labels_lem s k su t h));
      goes_on = made;
      refused = λ s t cs st su n c. unchanged n c;
      yes_leaves = λ s t rd rl m n c a k os out free su l. leaves s rd rl m n c a k os out free l;
      yes_restores = λ s t u rd rl m n c a k os out free su sv l d. restores s rd rl m n c a k os out free l d;
      no_leaves = λ s t rd rl m n c a k cs z su l h.
          let d = stands cs k z l in
          let us = length-take-le s.rows s.depths k.fits in
          let ul = length-take-le s.rows s.labels (omega (arith, k.fits, k.lengths)) in
          no_excluded rd rl (used_depths s) (used_labels s) m c n a
          (left_included rd rl (used_depths s) (used_labels s) su k.rows.outline (ul ∙ sym us) (rw us d.named)
          (sym (sessions.used_depths_lem s k su t d) ∙ h.0) (sym (sessions.used_labels_lem s k su t d) ∙ h.1));
    }
