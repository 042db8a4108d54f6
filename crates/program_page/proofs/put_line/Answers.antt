-- Word, space, digits and byte 10, one behind the other; the digits are at most 20.
use native.Mathlib.Omega.{arith}
use mathlib.Core.Path.{refl}
use Rattle.lent_room.proofs.Laws.{puts_next}
use Rattle.lent_room.proofs.Numerals.{decimal_short}
use Rattle.lent_room.proofs.Passes.{lays_ok, lays_written}
use Rattle.program_page.proofs.put_line.Goals as goal

pub unwrap-c-requires : goal.unwrap-c-requires
unwrap-c-requires c =
    let a = c.put_text-a in
    let b = c.put_text-b in
    let few = decimal_short c.args.n (omega (arith, c.ranges.n)) in
    rw (lays_ok c.lay_decimal.ensures (omega (arith, few, a.ensures.ends, b.ensures.ends, c.requires, a.auto, b.auto))) refl

pub put_text-requires : goal.put_text-requires
put_text-requires c =
    let few = decimal_short c.args.n (omega (arith, c.ranges.n)) in
    let number = lays_written (rw c.unwrap-c.ensures at c.lay_decimal.ensures) in
    omega (arith, few, number.ends, c.put_text-a.ensures.ends, c.put_text-b.ensures.ends, c.requires)

pub returns : goal.returns
returns c =
    let a = c.put_text-a in
    let b = c.put_text-b in
    let few = decimal_short c.args.n (omega (arith, c.ranges.n)) in
    let number = lays_written (rw c.unwrap-c.ensures at c.lay_decimal.ensures) in
    record {
      stands = puts_next a.ensures (puts_next b.ensures (puts_next number c.put_text.ensures));
      short = omega (arith, few, number.ends, a.ensures.ends, b.ensures.ends, c.put_text.ensures.ends);
    }
