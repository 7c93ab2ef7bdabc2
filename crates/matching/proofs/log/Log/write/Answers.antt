-- `matching::log::Log::write` meets its contract: the row's six bits are written, and no others. Assumes nothing.
use mathlib.Core.Path.{ap}
use Prim.Native.Nat.{ℕ, ◌+◌, ◌*◌}
use Rattle.matching.proofs.LogLaws.{put_none, put_lower, put_upper}
use Rattle.matching.proofs.log.Log.write.Goals as goal

pub returns-then-k-eq0 : goal.returns-then-k-eq0
returns-then-k-eq0 c = rw (← c.self.view_is) (put_none _ c.self.invariant c.args.place c.args.k c.requires.1 c.args.first c.if-k-eq0.true)

pub returns-then-first-lt3072 : goal.returns-then-first-lt3072
returns-then-first-lt3072 c = rw (← c.self.view_is)
    (put_lower _ c.self.invariant c.args.place c.args.k c.requires.1 c.args.first c.if-first-lt3072.true _ (ap (λ (x : ℕ). 64 * x + c.args.place) c.upper.ensures.0))

pub returns : goal.returns
returns c = rw (c.put_upper-3.ensures, c.put_upper-2.ensures, c.put_upper.ensures, ← c.self.view_is)
    (put_upper _ c.self.invariant c.args.place c.args.k c.requires.1 c.args.first c.if-first-lt3072.false c.requires.0)
