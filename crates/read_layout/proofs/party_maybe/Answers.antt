-- `read_layout::party_maybe` meets its contract: a name and its Latin form, or nothing.
use Rattle.read_steps.proofs.Steps.{step_is, handed_on}
use Rattle.read_layout.proofs.Header.{party_reads, party_missing}
use Rattle.read_layout.proofs.party_maybe.Goals as goal

pub returns-in_err-c : goal.returns-in_err-c
returns-in_err-c c = λ l b d. handed_on _ c.in_err-c.was c.from_residual.ensures.1

pub returns-in-Ok : goal.returns-in-Ok
returns-in-Ok c = party_reads _ _ c.in_ok-c.was (step_is c.spoken.ensures c.in-Ok.is) c.leaf_maybe.ensures

pub returns-in-Err : goal.returns-in-Err
returns-in-Err c = party_missing _ _ c.in_ok-c.was (step_is c.spoken.ensures c.in-Err.is)
