-- `read_steps::plains` meets its contract: the scans by the table and by blocks, one after the other.
use native.Mathlib.Omega.{arith}
use Rattle.read_steps.specs.Texts.{is_plain}
use Rattle.read_steps.proofs.Scans.{upto_none, upto_join, upto_any}
use Rattle.read_steps.proofs.plains.Goals as goal

pub returns-then-n-start : goal.returns-then-n-start
returns-then-n-start c =
    let a = c.args in
    record { onward = omega arith; each = upto_none (is_plain a.high) a.s.now a.start; ends = λ h. absurd (omega arith) }

pub returns-then-mid-start : goal.returns-then-mid-start
returns-then-mid-start c =
    let m = c.scan-mid.ensures in
    record { onward = m.onward; each = m.each; ends = λ h. m.ends (omega arith) }

pub returns : goal.returns
returns c =
    let a = c.args in
    let m = c.scan-mid in
    let b = c.blocks-2 in
    let e = c.scan-2.ensures in
    let s = a.s.now in
    let f = is_plain a.high in
    record {
      onward = omega (arith, m.ensures.onward, b.ensures.onward, e.onward);
      each =
          upto_join f s a.start b.result c.scan-2.result
          (upto_join f s a.start m.result b.result m.ensures.each (upto_any a.high s m.result b.result b.ensures.each))
          e.each;
      ends = e.ends;
    }
