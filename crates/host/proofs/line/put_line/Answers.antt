-- The parts of the line, each behind the one before; together they have its length.
use native.Mathlib.Omega.{arith}
use lib.ListN.{length-append}
use Rattle.host.specs.Line.{newline}
use Rattle.host.proofs.Putting.{line_parts, line_length, put_then, put_byte, put_room, put_next}
use Rattle.host.proofs.line.put_line.Goals as goal

pub put_word-count-requires : goal.put_word-count-requires
put_word-count-requires c = let l = line_length c.args.word.now c.args.first c.args.second c.args.images.now in omega arith

pub put_number-count-requires : goal.put_number-count-requires
put_number-count-requires c =
    let l = line_length c.args.word.now c.args.first c.args.second c.args.images.now in
    put_room _ c.put_word-count.ensures (omega arith)

pub put_number-count-requires-2 : goal.put_number-count-requires-2
put_number-count-requires-2 c =
    let l = line_length c.args.word.now c.args.first c.args.second c.args.images.now in
    put_room _ (put_then c.put_word-count.ensures c.put_number-count.ensures) (simp length-append (omega arith))

pub put_images-count-requires : goal.put_images-count-requires
put_images-count-requires c =
    let l = line_length c.args.word.now c.args.first c.args.second c.args.images.now in
    let numbers = put_then (put_then c.put_word-count.ensures c.put_number-count.ensures) c.put_number-count-2.ensures in
    put_room _ numbers (simp length-append (omega arith))

pub bounds-answer-count : goal.bounds-answer-count
bounds-answer-count c =
    let l = line_length c.args.word.now c.args.first c.args.second c.args.images.now in
    let numbers = put_then (put_then c.put_word-count.ensures c.put_number-count.ensures) c.put_number-count-2.ensures in
    put_next (put_then numbers c.put_images-count.ensures) (simp length-append (omega arith))

pub returns : goal.returns
returns c =
    let l = line_length c.args.word.now c.args.first c.args.second c.args.images.now in
    let numbers = put_then (put_then c.put_word-count.ensures c.put_number-count.ensures) c.put_number-count-2.ensures in
    let whole = put_byte newline (put_then numbers c.put_images-count.ensures) (simp length-append (omega arith)) in
    rw (line_parts c.args.word.now c.args.first c.args.second c.args.images.now) whole
