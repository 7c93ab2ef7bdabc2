use Rattle.std.proofs.Common.{◌+◌, ap, sym, ◌∙◌, map, arith}
use Rattle.std.proofs.lemmas.List.{get_or-map, length-map}
use Rattle.parcels.proofs.Runs.{put_turn, put_stop}
use Rattle.parcels.proofs.Sections.{put_section}
use Rattle.parcels.proofs.fields.put.Goals as goal

pub loop-i-preserved : goal.loop-i-preserved
loop-i-preserved g c =
    let field = g.F.Field in
    let i = c.loop-i.i in
    let xs = map field.value c.args.values.now in
    let size = length-map c.args.values.now field.value in
    let x = c.index-values-i.result in
    let there = get_or-map field.value c.args.values.now i x 0 c.loop-i-test.true ∙ ap field.value (sym c.index-values-i.is) in
    let put = rw (c.WIDTH.ensures, ← there) at c.put-in-loop-i.ensures in
    put_turn field.WIDTH xs (c.args.at + 4) i c.loop-i.bytes c.put-in-loop-i.new.bytes (omega arith) put c.loop-i.invariant

pub returns : goal.returns
returns g c =
    let field = g.F.Field in
    let xs = map field.value c.args.values.now in
    let size = length-map c.args.values.now field.value in
    let put = put_stop field.WIDTH xs (c.args.at + 4) c.loop-i.i c.loop-i.bytes (omega arith) c.loop-i.invariant in
    put_section c.args.bytes.now field.WIDTH c.args.at xs (rw size c.put.ensures) put
