-- `matching::path::ask_next` meets its contract: a row with another left-most leaf is asked, if that is not one too many. Assumes nothing.
use mathlib.Core.Path.{refl}
use native.Mathlib.Omega.{arith}
use Rattle.matching.specs.Path.{asks}
use Rattle.matching.proofs.AskedLaws.{asked_few}
use Rattle.matching.proofs.path.ask_next.Goals as goal

pub chain-requires : goal.chain-requires
chain-requires c = omega (arith, asked_few 256 _ _ c.requires.2)

pub returns : goal.returns
returns c = asks _ (λ e. c.if-leaf_of.false (cc)) c.if-most-k.false c.ask.ensures refl
