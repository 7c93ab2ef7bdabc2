use mathlib.Core.Path.{◌≡◌, sym, subst, ◌∙◌}
use mathlib.Core.List.{List}
use Prim.Native.Nat.{ℕ, ◌≤◌, ◌-◌}
use native.Mathlib.Omega.{arith}
use native.Mathlib.Numerals.{add-one}
use lib.ListN.{length}
use Rattle.rows.specs.Rows.{Row, Outline, depth, descendants}
use Rattle.matching.specs.Asked.{chain}
use Rattle.matching.specs.Path.{PathAsked, Marks}
use Rattle.matching.specs.Room.{room_words, room_for}
use Rattle.matching.specs.Shape.{Shape, word}
use Rattle.matching.proofs.AskedLaws.{asked_few}
use Rattle.matching.proofs.Asking.{shape_of, Asking, inner_row, marks_wide, asking_first, asking_step, asking_stop, asking_next}
use Rattle.matching.proofs.path.ask_path.Goals as goal

-- the path is asked, as far as it goes, and its rows have their marks
done : {rd us m₀ m : List ℕ} {v u k i most : ℕ} → ((n : ℕ) → n ≤ most → n ≤ length rd → room_for (length rd) n (64 - depth rd v) ≤ room_words) → k ≤ most → i ≤ 63
    → Asking rd us m₀ m v u k i → (PathAsked rd us k × (chain us 0 ≡ v)) × Marks rd us k 63 m₀ m
done {rd} {us} {m₀} {m} {v} {u} {k} {i} {most} fits few place a =
    let room = fits k few (asked_few _ _ _ a.chains) in (
      (
        record {
          some = a.some;
          chains = a.chains;
          path = a.path;
          room = subst (λ (x : ℕ). room_for (length rd) k (64 - depth rd x) ≤ room_words) (sym a.first) room;
        },
        a.first,
      ),
      marks_wide _ _ _ _ 63 _ _ place a.marks,
    )

-- a row with another left-most leaf has rows below it
inner : {rd ws : List ℕ} {u x : ℕ} → Shape rd ws → Outline rd → Row rd u → x ≡ word 2 ws u → (x ≡ u → ⊥) → 1 ≤ descendants rd u
inner {rd} {ws} {u} {x} s o r e n = inner_row rd o u r (λ l. n (e ∙ s.leaves u r.1 ∙ l))

pub loop-place-init : goal.loop-place-init
loop-place-init c =
    let q = c.args.question.now in
    let s = shape_of q.ready q.same in
    let r = c.requires.inner in
    let f = asking_first q.recipe.now s.1 s.0.few c.args.asked.now _ c.args.map.now c.args.v _ _ c.ask_first-k.ensures.0 r.0 r.1 c.ask_first-k.ensures.1
    c.widest_child-u.ensures in
    (omega (arith, f.0, c.most_chains-most.ensures.0), f.1)

pub returns-then-leaf_of-u : goal.returns-then-leaf_of-u
returns-then-leaf_of-u c = let d = done c.most_chains-most.ensures.1 c.loop-place.invariant.0 (omega arith) c.loop-place.invariant.1 in
    record { path_asked = d.0; marks = d.1 }

pub returns-in_default : goal.returns-in_default
returns-in_default c =
    let d = done c.most_chains-most.ensures.1 c.loop-place.invariant.0 (omega arith) c.loop-place.invariant.1 in
    rw (asking_stop c.in_default.ensures) (record { path_asked = d.0; marks = d.1 })

pub widest_child-u-requires-in-loop-place : goal.widest_child-u-requires-in-loop-place
widest_child-u-requires-in-loop-place c =
    let q = c.args.question.now in
    let s = shape_of q.ready q.same in
    let r = c.loop-place.invariant.1.row in
    (r, inner s.0 s.1 r c.leaf_of.ensures c.if-leaf_of-u.false)

pub loop-place-preserved : goal.loop-place-preserved
loop-place-preserved c =
    let q = c.args.question.now in
    let s = shape_of q.ready q.same in
    let a = c.loop-place.invariant.1 in
    let x = asking_step q.recipe.now s.1 s.0.few q.shape.now c.loop-place.asked _ c.args.map.now c.loop-place.map c.args.v c.loop-place.u c.loop-place.k
    c.loop-place.place _ _ s.0 a c.in-Some.ensures (inner s.0 s.1 a.row c.leaf_of.ensures c.if-leaf_of-u.false) c.loop-place.invariant.0 in
    let n = asking_next q.recipe.now s.1 s.0.few _ c.args.map.now c.loop-place.map c.args.v c.loop-place.u _ c.loop-place.place _ c.requires.map_len x.1
    c.widest_child-u-in-loop-place.ensures in
    (x.0, rw (add-one c.loop-place.place) n)

pub returns : goal.returns
returns c = let d = done c.most_chains-most.ensures.1 c.loop-place.invariant.0 (omega arith) c.loop-place.invariant.1 in
    record { path_asked = d.0; marks = d.1 }
