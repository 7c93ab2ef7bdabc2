-- `matching::asked::Chains::ask` meets its contract: a chain is asked from now on, and every other one as before. Assumes nothing.
use mathlib.Core.Path.{sym}
use mathlib.Core.Bool.{true≢false}
use Prim.Native.Nat.{◌≤◌}
use native.Mathlib.Omega.{arith}
use native.Mathlib.Numerals.{add-one}
use Rattle.matching.specs.Asked.{Member}
use Rattle.matching.proofs.AskedLaws.{asked_few, asked_room, stored, asks_one}
use Rattle.matching.proofs.asked.Chains.ask.Goals as goal

pub is_asked-requires : goal.is_asked-requires
is_asked-requires c = (asked_few 256 c.args.self.now c.args.z c.requires.1, omega (arith, c.if-y-eq0.false), c.requires.0)

-- there is room for one more
pub bounds-self-inside-z : goal.bounds-self-inside-z
bounds-self-inside-z c =
    asked_room 256 c.args.self.now c.args.z c.args.y c.requires.1 (omega (arith, c.if-y-eq0.false)) c.requires.0
    (λ m. true≢false (sym (c.if-is_asked.ensures.1 m)))

pub returns : goal.returns
returns c =
    let new : Member c.args.self.now c.args.z c.args.y → ⊥ = λ m. true≢false (sym (c.if-is_asked.ensures.1 m)) in
    let one : 1 ≤ c.args.y = omega (arith, c.if-y-eq0.false) in
    let room = asked_room 256 c.args.self.now c.args.z c.args.y c.requires.1 one c.requires.0 new in
    rw (add-one, ← stored c.self.inside.rows c.self.inside.path c.self.inside.places c.args.z c.args.y c.self.invariant.0 room one, c.self.view_is)
    (asks_one c.args.self.now c.args.z c.args.y c.requires.1.size room one c.requires.0 new)
