-- Questions asked one after another: a definition that refuses lists them in document 01's order. Assumes nothing.
use Rattle.std.specs.Prelude.{Bool, true, false}

-- where the test holds, go on; else that is the answer
abbrev pub asked : {A : Type 0} → Bool → A → A → A
asked true refused on = on
asked false refused on = refused
