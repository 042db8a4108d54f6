use native.Mathlib.Omega.{arith}
use Rattle.read_steps.proofs.Letters.{letters_stop, letters_more, letters_end, letter_onwards, plains_more, text_over, text_stops, text_reads}
use Rattle.read_steps.proofs.Steps.{step_is}
use lib.ListN.{drop}
use Rattle.read_steps.specs.Follow.{Not}
use Rattle.read_steps.specs.Texts.{is_text}
use Rattle.read_steps.proofs.text_at.Goals.{then-s-at-via-then-s-at, then-s-at-via-else-s-at+then-s-at-ne38}
use Rattle.read_steps.proofs.text_at.Goals as goal

pub loop-at-init : goal.loop-at-init
loop-at-init c = λ m g e. e

pub plains-at-requires : goal.plains-at-requires
plains-at-requires c = c.requires

pub returns-then-s-at : goal.returns-then-s-at
returns-then-s-at c =
    let a = c.args in
    let s = a.s.now in
    let p = c.plains-at in
    let n : Not (is_text a.high) (drop p.result s) =
    elim c.then-s-at.branch [
      | then-s-at-via-then-s-at w ↦ text_over a.high s p.result w.if-s-at.true
      | then-s-at-via-else-s-at+then-s-at-ne38 w ↦ text_stops a.high s p.result (p.ensures.ends w.if-s-at.false) w.if-s-at-ne38.true
    ] in
    rw c.max.ensures (text_reads a.high (c.loop-at.invariant _ _ (plains_more a.high s p.ensures (letters_end a.high s n))))

pub loop-at-smaller : goal.loop-at-smaller
loop-at-smaller c =
    let args = c.args in
    let plains = c.plains-at in
    let o = letter_onwards args.high (step_is c.character.ensures c.in-Ok.is) in
    omega (arith, o.0, o.1, plains.ensures.onward)

pub loop-at-preserved : goal.loop-at-preserved
loop-at-preserved c =
    let loop' = c.loop-at in
    let plains = c.plains-at in
    let a = c.args in
    λ m g e.
    loop'.invariant m g
    (plains_more a.high a.s.now plains.ensures
    (letters_more a.high (step_is c.character.ensures c.in-Ok.is) e))

pub returns-in-Err : goal.returns-in-Err
returns-in-Err c =
    let a = c.args in
    let e = letters_stop a.high (step_is c.character.ensures c.in-Err.is) in
    text_reads a.high (c.loop-at.invariant _ _ (plains_more a.high a.s.now c.plains-at.ensures e))
