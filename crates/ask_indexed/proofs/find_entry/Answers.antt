-- A refusal of the sequence, 32, or the entry.
use Rattle.std.proofs.Common.{rules, ◌≡◌, Err}
use Rattle.std.proofs.lemmas.Result.{err_from_is_err_and}
use Rattle.ask_indexed.proofs.Found.{refused_earlier, entry_missing, entry_found}
use Rattle.ask_indexed.proofs.find_entry.Goals as goal

pub returns-in_err-body : goal.returns-in_err-body
returns-in_err-body c =
    let p = err_from_is_err_and c.from_residual.result c.from_residual.ensures.1 in
    rw (p.1, p.2) (refused_earlier c.in_err-body.ensures)

pub returns-in_err-entry : goal.returns-in_err-entry
returns-in_err-entry c =
    let e : c.from_residual-in_err-entry.result ≡ Err (record { rule = 32; place = 0 }) = search rules in
    rw e (entry_missing c.in_ok-body.ensures c.entry_of.ensures c.in_err-entry.ensures.ok_part)

pub returns : goal.returns
returns c = entry_found c.in_ok-body.ensures c.entry_of.ensures c.in_ok-entry.ensures.ok_part
