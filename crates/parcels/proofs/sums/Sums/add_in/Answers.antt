use Rattle.std.proofs.Common.{drop, sym, ◌∙◌, arith}
use Rattle.parcels.specs.Numbers.{numbers}
use Rattle.parcels.proofs.LittleEndian.{numbers_at, numbers_length}
use Rattle.parcels.proofs.Summing.{turn, stop}
use Rattle.parcels.proofs.sums.Sums.add_in.Goals as goal

pub loop-i-preserved : goal.loop-i-preserved
loop-i-preserved g c =
    let field = g.F.Field in
    let i = c.loop-i.i in
    let words = numbers field.WIDTH c.args.n (drop c.args.at c.args.bytes.now) in
    let count = numbers_length field.WIDTH c.args.n (drop c.args.at c.args.bytes.now) in
    let read = rw c.WIDTH.ensures at c.read.ensures in
    let word = numbers_at field.WIDTH c.args.n i c.args.bytes.now c.args.at (omega arith) ∙ sym read ∙ sym c.word.ensures in
    turn words i c.loop-i.after c.add-after.result c.word.result (omega arith) word c.add-after.ensures c.loop-i.invariant

pub returns : goal.returns
returns g c =
    let field = g.F.Field in
    let words = numbers field.WIDTH c.args.n (drop c.args.at c.args.bytes.now) in
    let count = numbers_length field.WIDTH c.args.n (drop c.args.at c.args.bytes.now) in
    stop words c.loop-i.i c.loop-i.after (omega arith) c.loop-i.invariant
