-- `ask_find::find_sequence` meets its contract.
use Rattle.std.proofs.Common.{rules, ◌≡◌, Err}
use Rattle.std.proofs.lemmas.Result.{err_from_is_err_and}
use Rattle.paper.specs.Answers as paper
use Rattle.ask_find.proofs.Found.{no_sequence, sequence_so}
use Rattle.ask_find.proofs.find_sequence.Goals as goal

pub returns-in_err-list : goal.returns-in_err-list
returns-in_err-list c =
    let p = err_from_is_err_and c.from_residual.result c.from_residual.ensures.1 in
    rw (p.1, p.2) (paper.own c.in_err-list.ensures)

pub returns-in_err-at : goal.returns-in_err-at
returns-in_err-at c =
    let e : c.from_residual-in_err-at.result ≡ Err (record { rule = 30; place = 0 }) = search rules in
    rw e (no_sequence c.in_ok-list.ensures c.nth.ensures c.in_err-at.ensures.ok_part)

pub returns : goal.returns
returns c =
    sequence_so c.in_ok-list.ensures c.nth.ensures c.in_ok-at.ensures.ok_part c.sequence-found.ensures c.is_skipped.ensures c.if-is_skipped.false
