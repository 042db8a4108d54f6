-- `walk_steps::past` meets its contract: what is within s is no sum that wraps.
use Rattle.std.proofs.Common.{arith, length-drop}
use Rattle.walk_steps.proofs.past.Goals as goal

pub returns : goal.returns
returns c =
    record { is = λ h. omega (arith, h, length-drop c.args.at c.args.s.now, c.wrapping_add_usize.ensures.value, c.ranges.at.fits, c.well_formed) }
