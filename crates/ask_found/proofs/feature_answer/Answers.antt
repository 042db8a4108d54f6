-- `ask_found::feature_answer` meets its contract: 34, or its parts and its spans.
use Rattle.std.proofs.Common.{rules, ◌≡◌, Err}
use Rattle.ask_found.proofs.Spanned.{feature_short, feature_found}
use Rattle.ask_found.proofs.feature_answer.Goals as goal

pub returns-in_err-spans : goal.returns-in_err-spans
returns-in_err-spans c =
    let e : c.from_residual.result ≡ Err (record { rule = 34; place = 0 }) = search rules in
    rw e (feature_short c.top_of-top.ensures c.spans-written.ensures c.in_err-spans.ensures.ok_part)

pub returns : goal.returns
returns c = feature_found c.top_of-top.ensures c.spans-written.ensures c.in_ok-spans.ensures.ok_part c.stretch_of.ensures c.stretch_of-2.ensures
