-- `ask_lookups::locate_sequence` meets its contract.
use Rattle.std.proofs.lemmas.Result.{err_from_is_err_and}
use Rattle.ask_found.proofs.Located.{sequence_refused}
use Rattle.ask_lookups.proofs.Asked.{sequence_answered}
use Rattle.ask_lookups.proofs.locate_sequence.Goals as goal

pub returns-in_err-found : goal.returns-in_err-found
returns-in_err-found c =
    let p = err_from_is_err_and c.from_residual.result c.from_residual.ensures.1 in
    rw (p.1, p.2) (sequence_refused c.in_err-found.ensures)

pub returns : goal.returns
returns c = sequence_answered c.in_ok-found.ensures c.bytes_of.ensures c.kind_of-kind.ensures c.sequence_answer.ensures
