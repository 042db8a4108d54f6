-- `ask_find::find_feature` meets its contract.
use Rattle.std.proofs.lemmas.Result.{err_from_is_err_and}
use Rattle.paper.specs.Answers as paper
use Rattle.ask_find.proofs.Found.{no_feature, feature_so}
use Rattle.ask_find.proofs.find_feature.Goals as goal

pub returns-in_err-sequence : goal.returns-in_err-sequence
returns-in_err-sequence c =
    let p = err_from_is_err_and c.from_residual.result c.from_residual.ensures.1 in
    rw (p.1, p.2) (paper.earlier c.in_err-sequence.ensures)

pub returns-in_err-feature : goal.returns-in_err-feature
returns-in_err-feature c =
    let p = err_from_is_err_and c.from_residual-in_err-feature.result c.from_residual-in_err-feature.ensures.1 in
    rw (p.1, p.2) (no_feature c.in_ok-sequence.ensures c.feature_in.ensures c.in_err-feature.was)

pub returns : goal.returns
returns c = feature_so c.in_ok-sequence.ensures c.feature_in.ensures c.in_ok-feature.was
