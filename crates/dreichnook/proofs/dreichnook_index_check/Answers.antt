-- `dreichnook::dreichnook_index_check` meets its contract.
use Rattle.dreichnook.proofs.Handed.{index_check_handed}
use Rattle.dreichnook.proofs.dreichnook_index_check.Goals as goal

pub returns : goal.returns
returns c = index_check_handed c.check_index.ensures c.hand_index_verdict.ensures
