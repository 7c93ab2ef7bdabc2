-- `matching::tables::Rules::check` meets its contract: each return rewrites `table_check` by the tests that led there. Assumes nothing.
use mathlib.Core.Path.{sym, ap, ◌∙◌}
use borrow.Author.Tests.{eq-eqb, ne_eqb, lt-ltb}
use Rattle.matching.specs.Refusals.{table_check}
use Rattle.matching.proofs.Refusals.{sized}
use Rattle.std.specs.Prelude.{Err}
use Rattle.matching.specs.declared.Refusal.{Refusal}
use Rattle.matching.proofs.tables.Rules.check.Goals as goal

pub returns-then-depths-labels : goal.returns-then-depths-labels
unfolding table_check
returns-then-depths-labels g c step deep s d = simp (ne_eqb _ _ c.if-depths-labels.true)

pub returns-then-is_empty : goal.returns-then-is_empty
unfolding table_check
returns-then-is_empty g c step deep s d = simp (eq-eqb _ _ c.if-depths-labels.false, sym c.is_empty.ensures ∙ c.if-is_empty.true)

pub returns-then-self-depths : goal.returns-then-self-depths
unfolding table_check
returns-then-self-depths g c step deep s d =
    simp (eq-eqb _ _ c.if-depths-labels.false, sym c.is_empty.ensures ∙ c.if-is_empty.false, lt-ltb _ _ c.if-self-depths.true)

pub returns-in-Ok : goal.returns-in-Ok
returns-in-Ok g c step deep s d =
    let a = c.args.self.now in
    simp (sized a.slices a.empty a.most a.long step deep c.args.depths.now c.args.labels.now c.if-depths-labels.false (sym c.is_empty.ensures ∙ c.if-is_empty.false) c.if-self-depths.false, sym c.in-Ok.ensures)

pub returns-in-Err-Step : goal.returns-in-Err-Step
returns-in-Err-Step g c step deep s d =
    let a = c.args.self.now in
    simp (
      sized a.slices a.empty a.most a.long step deep c.args.depths.now c.args.labels.now c.if-depths-labels.false (sym c.is_empty.ensures ∙ c.if-is_empty.false) c.if-self-depths.false,
      sym c.in-Err-Step.ensures,
      c.in-Err-Step.field-0-is,
    ) (ap (λ (x : Refusal). Err x) (s _ _ c.step.ensures))

pub returns-in-Err-TooDeep : goal.returns-in-Err-TooDeep
returns-in-Err-TooDeep g c step deep s d =
    let a = c.args.self.now in
    simp (
      sized a.slices a.empty a.most a.long step deep c.args.depths.now c.args.labels.now c.if-depths-labels.false (sym c.is_empty.ensures ∙ c.if-is_empty.false) c.if-self-depths.false,
      sym c.in-Err-TooDeep.ensures,
      c.in-Err-TooDeep.field-0-is,
    ) (ap (λ (x : Refusal). Err x) (d _ _ c.deep.ensures))
