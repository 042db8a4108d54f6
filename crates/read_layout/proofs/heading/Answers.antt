-- `read_layout::heading` meets its contract: an identification first, or a reference.
use Rattle.read_steps.proofs.Steps.{step_is, step_from}
use Rattle.read_layout.proofs.Header.{heading_applied, heading_referred}
use Rattle.read_layout.proofs.heading.Goals as goal

pub returns-in-Ok : goal.returns-in-Ok
returns-in-Ok c = step_from c.in_ok-c.was (heading_applied (step_is c.identification.ensures c.in-Ok.is) c.leaf_maybe.ensures)

pub returns-in-Err : goal.returns-in-Err
returns-in-Err c = step_from c.in_ok-c.was (heading_referred (step_is c.identification.ensures c.in-Err.is) c.leaf.ensures)
