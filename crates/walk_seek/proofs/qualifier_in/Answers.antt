-- `walk_seek::qualifier_in` meets its contract: 33, or the qualifier.
use Rattle.std.proofs.Common.{rules, ◌≡◌, Err}
use Rattle.walk_seek.proofs.Within.{no_qualifier, qualifier_so}
use Rattle.walk_seek.proofs.qualifier_in.Goals as goal

pub returns-in_err-at : goal.returns-in_err-at
returns-in_err-at c =
    let e : c.from_residual.result ≡ Err (record { rule = 33; place = 0 }) = search rules in
    rw e (no_qualifier c.nth.ensures c.in_err-at.ensures.ok_part)

pub returns : goal.returns
returns c = qualifier_so c.nth.ensures c.in_ok-at.ensures.ok_part c.qualifier.ensures
