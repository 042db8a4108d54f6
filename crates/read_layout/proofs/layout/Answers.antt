-- `read_layout::layout` meets its contract: what the whole text says of the layout.
use native.Mathlib.Omega.{arith}
use mathlib.Core.Path.{subst}
use Rattle.read_steps.specs.Reads.{AtEnd}
use Rattle.read_steps.proofs.Steps.{step_is}
use Rattle.read_layout.proofs.Wholes.{accepted, refused}
use Rattle.read_layout.specs.Says.{strays}
use Rattle.read_layout.proofs.layout.Goals as goal

pub returns-in-Ok : goal.returns-in-Ok
returns-in-Ok c =
    let h = c.in-Ok.is in
    let d = c.document.ensures in
    let x = accepted _ _ (step_is d.0 h) (subst (AtEnd _) h d.1) in
    record { short = omega arith; listing = x.0; laid = x.1 }

pub returns-in-Err : goal.returns-in-Err
returns-in-Err c = strays (omega arith) (refused _ (step_is c.document.ensures.0 c.in-Err.is))
