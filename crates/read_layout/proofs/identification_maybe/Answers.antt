use Rattle.read_steps.proofs.Steps.{tried}
use Rattle.read_layout.proofs.identification_maybe.Goals as goal

pub returns : goal.returns
returns c = tried c.in_ok-c.was c.identification.ensures c.stay.ensures
