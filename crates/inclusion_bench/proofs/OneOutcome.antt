-- Two outcomes that meet the contract of the inclusion call for C are equal. Assumes nothing.
use mathlib.Core.Path.{◌≡◌, sym, ap, ◌∙◌}
use mathlib.Core.List.{List}
use Prim.Native.Nat.{ℕ}
use Rattle.matching.proofs.AnswerLaws.{answer_one}
use Rattle.inclusion_bench.specs.Code.{code, Coded}

pub coded_one : (rd rl td tl m : List ℕ) (r s : ℕ) (n k : List ℕ) → Coded rd rl td tl m r n → Coded rd rl td tl m s k → (r ≡ s) × (n ≡ k)
coded_one rd rl td tl m r s n k x y =
    let e = answer_one rd rl td tl m x.answer y.answer n k x.given y.given in
    (x.number ∙ ap code e.0 ∙ sym y.number, e.1)
