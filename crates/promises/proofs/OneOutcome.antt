-- Each public function's contract asks nothing, says what specs/OneOutcome says, and leaves one outcome. Assumes nothing.
use mathlib.Core.Path.{◌≡◌, refl, sym, ap, ap₂, ◌∙◌}
use mathlib.Core.Logic.{◌↔◌}
use mathlib.Core.List.{List, [], ◌∷◌}
use Prim.Native.Nat.{ℕ}
use contract.Lifetimes.{Lfts}
use denote.Triple.Clauses.{AtExit}
use borrow.Fn.Kinds.{ParamKind, ResultKind, Dens, res_t, ended_of, In, Out}
use Rattle.matching.proofs.AnswerLaws.{answer_one}
use Rattle.matching.proofs.JudgeLaws.{judge_one}
use Rattle.parcels.proofs.OneOutcome.{one_read, one_write}
use Rattle.host.proofs.OneLine.{one_answer}
use Rattle.promises.specs.OneOutcome.{PublicCall, OneOutcome}

-- a contract that is one equation
equation : {n : ℕ} {ps : List (ParamKind n)} {r : ResultKind n} {Pre : In n ps} {Post : Out n ps r} (f : (κs : Lfts n) → Dens κs ps → (res_t r κs).Denot)
    → ((κs : Lfts n) (a : Dens κs ps) → Pre κs a)
    → ((κs : Lfts n) (a : Dens κs ps) (x : (res_t r κs).Denot) (end : AtExit (ended_of n ps r) κs) → Post κs a x end ↔ (x ≡ f κs a))
    → PublicCall ps r Pre Post (λ κs a x end. x ≡ f κs a) (λ κs end. [])
equation f all says =
    record {
      takes_all = all;
      says = says;
      one_outcome = λ κs a x y end other p q. ((says κs a x end).0 p ∙ sym ((says κs a y other).0 q), refl);
    }

-- a contract of four equations: what comes back, and three slices
four : {A : Type 0} {x y z : A} {d e f l m g j k h : List ℕ} → (x ≡ z) × ((d ≡ f) × ((l ≡ g) × (j ≡ h))) → (y ≡ z) × ((e ≡ f) × ((m ≡ g) × (k ≡ h)))
    → (x ≡ y) × (d ∷ l ∷ j ∷ [] ≡ e ∷ m ∷ k ∷ [])
four p q =
    let a = p.1.0 ∙ sym q.1.0 in
    let b = p.1.1.0 ∙ sym q.1.1.0 in
    let c = p.1.1.1 ∙ sym q.1.1.1 in
    (p.0 ∙ sym q.0, cc)

pub one_outcome : OneOutcome
one_outcome =
    record {
      first_bad = equation _ (λ κs a. tt) (λ κs a x end. (λ p. p, λ p. p));
      depth_of = equation _ (λ κs a. tt) (λ κs a x end. (λ p. p, λ p. p));
      descendants_of = equation _ (λ κs a. tt) (λ κs a x end. (λ p. p, λ p. p));
      last_row_of = record {
        takes_all = λ κs a. tt;
        says = λ κs a x end. (λ p. p, λ p. p);
        one_outcome = λ κs a x y end other p q. (λ i. record { 0 = (p ∙ sym q) i }, refl);
      };
      closing_of = record {
        takes_all = λ κs a. tt;
        says = λ κs a x end. (λ p. p, λ p. p);
        one_outcome = λ κs a x y end other p q. (λ i. record { 0 = (p ∙ sym q) i }, refl);
      };
      is_ancestor = equation _ (λ κs a. tt) (λ κs a x end. (λ p. p, λ p. p));
      is_left_of = equation _ (λ κs a. tt) (λ κs a x end. (λ p. p, λ p. p));
      include = record {
        takes_all = λ κs a. tt;
        says = λ κs a x end. (λ p. p, λ p. p);
        one_outcome = λ κs a x y end other p q. let e = answer_one _ _ _ _ _ x y _ _ p q in (e.0, ap (λ (m : List ℕ). m ∷ []) e.1);
      };
      judge = record {
        takes_all = λ κs a. tt;
        says = λ κs a x end. (λ p. p, λ p. p);
        one_outcome = λ κs a x y end other p q. (judge_one _ _ _ _ x y p q, refl);
      };
      read = record {
        takes_all = λ κs a. tt;
        says = λ κs a x end. (
          λ p. record { answer = p.0; depths_after = p.1.0; labels_after = p.1.1 },
          λ p. (p.answer, (p.depths_after, p.labels_after)),
        );
        one_outcome = λ κs a x y end other p q.
            let e = one_read κs a x y end other p q in (e.0, ap₂ (λ (d l : List ℕ). d ∷ l ∷ []) e.1 e.2);
      };
      write = record {
        takes_all = λ κs a. tt;
        says = λ κs a x end. (λ p. record { answer = p.0; bytes_after = p.1 }, λ p. (p.answer, p.bytes_after));
        one_outcome = λ κs a x y end other p q. let e = one_write κs a x y end other p q in (e.0, ap (λ (b : List ℕ). b ∷ []) e.1);
      };
      matching_number = equation _ (λ κs a. tt) (λ κs a x end. (λ p. p, λ p. p));
      matching_place = equation _ (λ κs a. tt) (λ κs a x end. (λ p. p, λ p. p));
      parcels_number = equation _ (λ κs a. tt) (λ κs a x end. (λ p. p, λ p. p));
      parcels_place = equation _ (λ κs a. tt) (λ κs a x end. (λ p. p, λ p. p));
      number_of = equation _ (λ κs a. tt) (λ κs a x end. (λ p. p, λ p. p));
      place_of = equation _ (λ κs a. tt) (λ κs a x end. (λ p. p, λ p. p));
      strike = record {
        takes_all = λ κs a. tt;
        says = λ κs a x end. (
          λ p. record { answer = p.0; depths = p.1.0; labels = p.1.1.0; journal = p.1.1.1 },
          λ m. (m.answer, (m.depths, (m.labels, m.journal))),
        );
        one_outcome = λ κs a x y end other p q. four p q;
      };
      undo = record {
        takes_all = λ κs a. tt;
        says = λ κs a x end. (
          λ p. record { answer = p.0; depths = p.1.0; labels = p.1.1.0; journal = p.1.1.1 },
          λ m. (m.answer, (m.depths, (m.labels, m.journal))),
        );
        one_outcome = λ κs a x y end other p q. four p q;
      };
      entry = record {
        takes_all = λ κs a. tt;
        says = λ κs a x end. (λ p. p, λ p. p);
        one_outcome = λ κs a x y end other p q. let e = one_answer κs a x y end other p q in (e.0, ap (λ (b : List ℕ). b ∷ []) e.1);
      };
    }
