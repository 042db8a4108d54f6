use native.Mathlib.Omega.{arith}
use mathlib.Core.Path.{sym, ◌∙◌}
use lib.ListN.{length-set}
use Rattle.lent_room.proofs.Numerals.{digits_start, digits_more, digits_end}
use borrow.Author.Rules.{rules}
use Rattle.lent_room.proofs.digits.Goals as goal

pub loop-left-init : goal.loop-left-init
loop-left-init c = digits_start c.args.n c.args.table.now (search rules) c.requires

pub overflow_sub-k : goal.overflow_sub-k
overflow_sub-k c = c.loop-left.invariant.some

pub bounds-table-k : goal.bounds-table-k
bounds-table-k c = omega (arith, c.loop-left.invariant.size, c.loop-left.invariant.some, c.loop-left.invariant.most)

pub loop-left-preserved : goal.loop-left-preserved
loop-left-preserved c = digits_more c.loop-left.invariant c.loop-left-test.true

pub overflow_sub-k-2 : goal.overflow_sub-k-2
overflow_sub-k-2 c = c.loop-left.invariant.some

pub bounds-table-k-2 : goal.bounds-table-k-2
bounds-table-k-2 c = omega (arith, c.loop-left.invariant.size, c.loop-left.invariant.some, c.loop-left.invariant.most)

pub shape_of-table : goal.shape_of-table
shape_of-table c = simp length-set (c.loop-left.invariant.size ∙ sym c.requires)

pub returns : goal.returns
returns c =
    (omega (arith, c.loop-left.invariant.most), digits_end c.loop-left.invariant (omega (arith, c.loop-left-test.false)))
