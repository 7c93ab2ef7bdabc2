use Rattle.matching.proofs.LogLaws.{blank_none}
use Rattle.matching.proofs.log.Log.write_none.Goals as goal

pub loop-at-init : goal.loop-at-init
loop-at-init c = rw (← c.self.view_is) (blank_none _ _ _ c.self.invariant)
