-- `dreichnook::dreichnook_check` meets its contract: the answer of the check, in numbers.
use Rattle.dreichnook.proofs.Handed.{check_handed}
use Rattle.dreichnook.proofs.dreichnook_check.Goals as goal

pub returns : goal.returns
returns c =
    let check = c.check in
    check_handed check.ensures c.hand_verdict.ensures
