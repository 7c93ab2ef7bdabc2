-- `matching::asked::Chains::extend` meets its contract: the right siblings that a join may look up are asked too. Assumes nothing.
use Rattle.matching.specs.Asked.{Extends}
use Rattle.matching.proofs.asked.Chains.extend.Given as goal

abbrev pub invariant-loop-i : goal.invariant-loop-i
invariant-loop-i l = Extends l.shape l.initial.self l.room l.base l.q l.i l.self l.z
