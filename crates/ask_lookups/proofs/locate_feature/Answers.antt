-- `ask_lookups::locate_feature` meets its contract.
use Rattle.std.proofs.lemmas.Result.{err_from_is_err_and}
use Rattle.ask_found.proofs.Located.{feature_refused}
use Rattle.ask_lookups.proofs.Asked.{feature_answered}
use Rattle.ask_lookups.proofs.locate_feature.Goals as goal

pub returns-in_err-sequence : goal.returns-in_err-sequence
returns-in_err-sequence c =
    let p = err_from_is_err_and c.from_residual.result c.from_residual.ensures.1 in
    rw (p.1, p.2) (feature_refused c.in_err-sequence.ensures)

pub returns : goal.returns
returns c = feature_answered c.in_ok-sequence.ensures c.feature_answer.ensures
