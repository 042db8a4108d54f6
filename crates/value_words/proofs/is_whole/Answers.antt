-- `value_words::is_whole` meets its contract: `1..` and digits are written as they read, and what is behind `1..` is the number.
use Prim.Native.Nat.{ℕ, ◌≤◌}
use native.Mathlib.Omega.{arith}
use mathlib.Core.Path.{refl, sym, subst}
use Rattle.std.proofs.lemmas.Bool.Decides.{Decides-eqb}
use Rattle.std.proofs.lemmas.Slice.Eq.{slice_eq-Decides}
use Rattle.paper.specs.Rules.{Whole}
use Rattle.paper.specs.Bytes.{bytes}
use Rattle.value_words.specs.Reading.{OfRead}
use Rattle.value_words.proofs.Read.{tells_read, tells_word}
use Rattle.value_words.proofs.Numbers.{raw_whole, whole_rest}
use Rattle.value_words.proofs.is_whole.Goals as goal

pub returns-then-n-eq0 : goal.returns-then-n-eq0
returns-then-n-eq0 c =
    let x = c.same in
    subst (λ (n : ℕ). OfRead c.args.w.now (Whole n) x.result) (sym c.if-n-eq0.true)
    (tells_word (bytes "1..0") refl x.result x.ensures)

pub returns-in-Some : goal.returns-in-Some
returns-in-Some c =
    let w = c.args.w.now in
    let n = c.args.n in
    let some : 1 ≤ n = omega (arith, c.if-n-eq0.false) in
    let front = (slice_eq-Decides Decides-eqb _ _ _ (sym c.in-Some.ensures.cases.0)).0 refl in
    let r = c.is_decimal.result in
    tells_read (Whole n) (raw_whole n some) r (whole_rest w n some front r (rw c.in-Some.ensures.cases.1 at c.is_decimal.ensures))
