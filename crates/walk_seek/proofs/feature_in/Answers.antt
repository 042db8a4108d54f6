-- `walk_seek::feature_in` meets its contract: 32, or the feature.
use Rattle.std.proofs.Common.{rules, ◌≡◌, Err}
use Rattle.walk_seek.proofs.Within.{no_table, no_feature, feature_so}
use Rattle.walk_seek.proofs.feature_in.Goals as goal

pub returns-in_err-table : goal.returns-in_err-table
returns-in_err-table c =
    let e : c.from_residual.result ≡ Err (record { rule = 32; place = 0 }) = search rules in
    rw e (no_table c.in_err-table.ensures.ok_part)

pub returns-in_err-at : goal.returns-in_err-at
returns-in_err-at c =
    let e : c.from_residual-in_err-at.result ≡ Err (record { rule = 32; place = 0 }) = search rules in
    rw e (no_feature c.in_ok-table.ensures.ok_part c.nth.ensures c.in_err-at.ensures.ok_part)

pub returns : goal.returns
returns c = feature_so c.in_ok-table.ensures.ok_part c.nth.ensures c.in_ok-at.ensures.ok_part c.feature.ensures
