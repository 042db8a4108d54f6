-- A segment or site: the sign, the first number, and what stands behind it.
use Rattle.location_judge.proofs.Kept.{one_mark, way_after, way_before, way_digit, piece_no, piece_after, piece_before, piece_site, piece_tail}
use Rattle.location_judge.proofs.pieces.piece.Goals as goal

pub returns-then-begins : goal.returns-then-begins
returns-then-begins c = piece_after (one_mark c.args.complemented c.from-base.ensures) c.in_ok-x.ensures (way_after c.begins.ensures c.if-begins.true)

pub returns-then-begins-2 : goal.returns-then-begins-2
returns-then-begins-2 c =
    piece_before (one_mark c.args.complemented c.from-base.ensures) c.in_ok-x-2.ensures (way_before c.begins.ensures c.if-begins.false c.begins-2.ensures c.if-begins-2.true)
    c.tail.result c.tail.ensures

pub returns-in_err-x-3 : goal.returns-in_err-x-3
returns-in_err-x-3 c =
    rw c.from_residual-in_err-x-3.ensures
    (piece_no (way_digit c.begins.ensures c.if-begins.false c.begins-2.ensures c.if-begins-2.false) c.args.complemented c.in_err-x-3.ensures)

pub returns-then-begins-3 : goal.returns-then-begins-3
returns-then-begins-3 c =
    piece_site (one_mark c.args.complemented c.from-base.ensures) c.in_ok-x-3.ensures (way_digit c.begins.ensures c.if-begins.false c.begins-2.ensures c.if-begins-2.false)
    c.begins-3.ensures c.if-begins-3.true c.pair.result c.pair.ensures

pub returns : goal.returns
returns c =
    piece_tail (one_mark c.args.complemented c.from-base.ensures) c.in_ok-x-3.ensures (way_digit c.begins.ensures c.if-begins.false c.begins-2.ensures c.if-begins-2.false)
    c.begins-3.ensures c.if-begins-3.false c.tail-2.result c.tail-2.ensures
