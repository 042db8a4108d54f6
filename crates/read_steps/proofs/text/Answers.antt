use Rattle.read_steps.proofs.Steps.{step_from}
use Rattle.read_steps.proofs.text.Goals as goal

pub returns : goal.returns
returns c = step_from c.in_ok-st.was c.text_at.ensures
