use Rattle.std.proofs.Common.{ap, sym, ◌∙◌, map, arith}
use Rattle.std.proofs.lemmas.List.{get_or-map, length-map}
use Rattle.parcels.proofs.Summing.{turn, stop}
use Rattle.parcels.proofs.sums.Sums.add_all.Goals as goal

pub loop-x-preserved : goal.loop-x-preserved
loop-x-preserved g c =
    let value = g.F.Field.value in
    let i = c.loop-x.x-index in
    let size = length-map c.args.values.now value in
    let x = c.x-item.result in
    let there = get_or-map value c.args.values.now i x 0 c.loop-x-test.true ∙ ap value (sym c.x-item.is) in
    turn (map value c.args.values.now) i c.loop-x.after c.add-after.result c.word.result (omega arith)
    (there ∙ sym c.word.ensures) c.add-after.ensures c.loop-x.invariant

pub returns : goal.returns
returns g c =
    let value = g.F.Field.value in
    let size = length-map c.args.values.now value in
    stop (map value c.args.values.now) c.loop-x.x-index c.loop-x.after (omega arith) c.loop-x.invariant
