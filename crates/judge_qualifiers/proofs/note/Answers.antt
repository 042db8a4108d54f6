use Prim.Native.Nat.{ℕ}
use native.Mathlib.Omega.{arith}
use mathlib.Core.Path.{subst}
use Rattle.judge_qualifiers.specs.Qualifiers.{WithWord}
use Rattle.judge_qualifiers.proofs.Noting.{organism_told, mol_type_told, noting_none, noting_next, noting_stuck, noting_done}
use Rattle.judge_qualifiers.proofs.note.Goals as goal
use Rattle.judge_qualifiers.proofs.note.Goals.{else-loop-name-test, then-loop-name-test+then-next-at}

pub loop-name-init : goal.loop-name-init
loop-name-init c = noting_none c.args.first c.args.upper c.args.row c.args.vocabulary.now

pub loop-name-smaller : goal.loop-name-smaller
loop-name-smaller c =
    let child-here = c.child_here in
    let if1 = c.loop-name-test in
    omega (arith, child-here.ensures.inside if1.true)

pub loop-name-preserved : goal.loop-name-preserved
loop-name-preserved c =
    let loop' = c.loop-name in
    let child-here = c.child_here in
    let if1 = c.loop-name-test in
    let qualifier = c.qualifier-value in
    let bytes_of = c.bytes_of in
    let name_of = c.name_of-number in
    let how = subst (λ (n : ℕ). WithWord n qualifier.result.name.from loop'.words c.with_word-words.result) c.standing.ensures c.with_word-words.ensures in
    noting_next child-here.ensures loop'.invariant if1.true qualifier.ensures bytes_of.ensures name_of.ensures c.is_name.result
    c.is_name-in-loop-name.result c.frame_with-frame.ensures c.excepted_with-excepted.ensures (rw c.is_name.ensures (organism_told c.args.upper))
    c.more_of_two-organisms.ensures (rw c.is_name-in-loop-name.ensures (mol_type_told c.args.upper)) c.more_of_two-moltypes.ensures how
    c.met_with-met.ensures

pub returns : goal.returns
returns c =
    let loop' = c.loop-name in
    elim c.loop-name-test.branch [
      | else-loop-name-test w ↦ rw c.unwrap_or.ensures (noting_done c.child_here.ensures loop'.invariant w.loop-name-test.false)
      | then-loop-name-test+then-next-at w ↦
          noting_stuck c.child_here.ensures loop'.invariant _ w.loop-name-test.true w.qualifier-value.ensures w.if-next-at.true
    ]
