-- `read_steps::odd` meets its contract: where the tests joined are 0 each of them is, and together they are the test of the class or more.
use Rattle.paper.proofs.Bits.{or_none}
use Rattle.read_steps.proofs.Scans.{plain_high, plain_joined}
use Rattle.read_steps.proofs.odd.Goals as goal

pub returns-then-all : goal.returns-then-all
returns-then-all c =
    let low = c.below in
    let high = c.below-then-all in
    record {
      none =
          plain_joined _ _ _ _ _ _ _ _ low.ensures high.ensures c.equal.ensures
          c.equal-then-all.ensures c.equal-then-all-2.ensures c.equal-then-all-3.ensures c.equal-then-all-4.ensures;
    }

pub returns : goal.returns
returns c =
    let l = c.below-2 in
    let u = c.below-3 in
    record { none = λ h. let z = or_none l.result u.result h in plain_high _ (l.ensures.none z.0) (u.ensures.none z.1) }
