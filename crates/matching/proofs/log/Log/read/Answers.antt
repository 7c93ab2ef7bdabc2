-- `matching::log::Log::read` meets its contract: the six bits of the row. Assumes nothing.
use mathlib.Core.Path.{◌≡◌, sym, ◌∙◌}
use Prim.Native.Nat.{suc, ◌-◌}
use native.Mathlib.Omega.{arith}
use Rattle.matching.proofs.LogLaws.{logged_lower, logged_upper}
use Rattle.matching.proofs.log.Log.read.Goals as goal

pub returns-then-first-lt3072 : goal.returns-then-first-lt3072
returns-then-first-lt3072 c = rw (← c.self.view_is) (c.from.ensures ∙ c.lower.ensures.0 ∙ sym (logged_lower _ _ (omega arith)))

pub returns : goal.returns
returns c =
    let slot₁ : suc c.args.first - 3072 ≡ suc (c.args.first - 3072) = omega arith in
    let slot₂ : suc c.args.first - 2048 ≡ suc (c.args.first - 2048) = omega arith in
    let slot₃ : suc c.args.first - 1024 ≡ suc (c.args.first - 1024) = omega arith in
    rw (← c.self.view_is) (
    c.from-2.ensures
    ∙ rw (c.upper.ensures.0, c.upper-2.ensures.0, c.upper-3.ensures.0)
    (sym (rw (slot₁, slot₂, slot₃) at (logged_upper c.self.inside.bytes (suc c.args.first) (omega arith) (omega arith)))))
