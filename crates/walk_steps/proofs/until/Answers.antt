-- `walk_steps::until` meets its contract: bytes one by one, then whole blocks in which every byte stands for itself, then the rest.
use Rattle.std.proofs.Common.{arith}
use Rattle.read_steps.proofs.Scans.{upto_none, upto_join}
use Rattle.walk_steps.specs.Stands.{others}
use Rattle.walk_steps.proofs.Places.{upto_others}
use Rattle.walk_steps.proofs.until.Goals as goal

pub returns-then-n-at : goal.returns-then-n-at
returns-then-n-at c =
    let a = c.args in
    record { onward = omega arith; each = upto_none (others a.stop) a.s.now a.at; ends = λ h. absurd (omega arith) }

pub returns-then-mid-at : goal.returns-then-mid-at
returns-then-mid-at c =
    let m = c.seek-mid.ensures in
    record { onward = m.onward; each = m.each; ends = λ h. m.ends (omega arith) }

pub returns : goal.returns
returns c =
    let pre' = c.requires in
    let a = c.args in
    let m = c.seek-mid in
    let b = c.blocks-2 in
    let e = c.seek-2.ensures in
    let s = a.s.now in
    let f = others a.stop in
    record {
      onward = omega (arith, m.ensures.onward, b.ensures.onward, e.onward);
      each =
          upto_join f s a.at b.result c.seek-2.result
          (upto_join f s a.at m.result b.result m.ensures.each (upto_others a.stop s m.result b.result (pre') b.ensures.each))
          e.each;
      ends = e.ends;
    }
