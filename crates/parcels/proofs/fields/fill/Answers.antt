use Rattle.std.proofs.Common.{◌∙◌, map, arith}
use Rattle.std.proofs.lemmas.List.{map-set, length-map}
use Rattle.parcels.proofs.Runs.{fill_none, fill_more}
use Rattle.parcels.proofs.fields.fill.Goals as goal

pub loop-i-init : goal.loop-i-init
loop-i-init g c = let field = g.F.Field in fill_none field.WIDTH c.args.bytes.now c.args.at (map field.value c.args.slots.now)

pub loop-i-preserved : goal.loop-i-preserved
loop-i-preserved g c =
    let field = g.F.Field in
    let i = c.loop-i.i in
    let before = map field.value c.args.slots.now in
    let now = map field.value c.loop-i.slots in
    let size = length-map c.args.slots.now field.value in
    let read = rw c.WIDTH.ensures at c.read.ensures in
    map-set field.value c.loop-i.slots i c.read.result
    ∙ fill_more field.WIDTH c.args.bytes.now c.args.at before now i (field.value c.read.result) (omega arith) c.loop-i.invariant read
