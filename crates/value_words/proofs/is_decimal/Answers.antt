use native.Mathlib.Omega.{arith}
use Rattle.value_words.proofs.Numbers.{digit}
use Rattle.value_words.proofs.is_decimal.Goals as goal
use Rattle.value_words.proofs.is_decimal.Goals.{then-b-lt48-via-then-b-lt48, then-b-lt48-via-else-b-lt48+then-b-gt57, then-b-lt48-via-else-b-lt48+else-b-gt57+then-n-v}

pub returns-then-b-lt48 : goal.returns-then-b-lt48
returns-then-b-lt48 c =
    let l = c.loop-b in
    λ x.
    let d = digit c.args.w.now c.args.n l.b-index l.v l.invariant.1 c.loop-b-test.true x in
    elim c.then-b-lt48.branch [
      | then-b-lt48-via-then-b-lt48 w ↦ omega (arith, d, w.if-b-lt48.true)
      | then-b-lt48-via-else-b-lt48+then-b-gt57 w ↦ omega (arith, d, w.if-b-gt57.true)
      | then-b-lt48-via-else-b-lt48+else-b-gt57+then-n-v w ↦ omega (arith, d, w.if-n-v.true)
    ]

pub returns-then-n-v-2 : goal.returns-then-n-v-2
returns-then-n-v-2 c =
    let l = c.loop-b in
    λ x. let d = digit c.args.w.now c.args.n l.b-index l.v l.invariant.1 c.loop-b-test.true x in omega (arith, d, c.if-n-v-2.true)
