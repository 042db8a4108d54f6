use Rattle.std.proofs.Common.{arith}
use Rattle.index_walk.proofs.Whole.{indexing_none, indexing_stuck, indexing_next, indexing_done}
use Rattle.index_walk.proofs.lay_sequences.Goals as goal
use Rattle.index_walk.proofs.lay_sequences.Goals.{else-loop-pass-test, then-loop-pass-test+then-next-at}

pub loop-pass-init : goal.loop-pass-init
loop-pass-init c = indexing_none

pub loop-pass-preserved : goal.loop-pass-preserved
loop-pass-preserved c =
    indexing_next c.child_here.ensures c.loop-pass.invariant c.loop-pass-test.true c.sequence-sequence.ensures c.lay_body-body.ensures
    c.word.ensures c.word-in-loop-pass.ensures c.lay_more-contents.ensures c.wrapping_add_usize-start.ensures.value

pub loop-pass-smaller : goal.loop-pass-smaller
loop-pass-smaller c = omega (arith, c.child_here.ensures.inside c.loop-pass-test.true, c.if-next-at.false)

pub returns : goal.returns
returns c =
    rw c.and.ensures
    (elim c.loop-pass-test.branch [
      | else-loop-pass-test w ↦ indexing_done c.child_here.ensures c.loop-pass.invariant w.loop-pass-test.false
      | then-loop-pass-test+then-next-at w ↦
          indexing_stuck c.child_here.ensures c.loop-pass.invariant w.loop-pass-test.true w.sequence-sequence.ensures w.if-next-at.true
    ])
