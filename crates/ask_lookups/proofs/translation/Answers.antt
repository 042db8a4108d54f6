-- `ask_lookups::translation` meets its contract.
use Rattle.std.proofs.lemmas.Result.{err_from_is_err_and}
use Rattle.ask_found.proofs.Translated.{translation_refused}
use Rattle.ask_lookups.proofs.Asked.{translation_answered}
use Rattle.ask_lookups.proofs.translation.Goals as goal

pub returns-in_err-sequence : goal.returns-in_err-sequence
returns-in_err-sequence c =
    let p = err_from_is_err_and c.from_residual.result c.from_residual.ensures.1 in
    rw (p.1, p.2) (translation_refused c.in_err-sequence.ensures)

pub returns : goal.returns
returns c = translation_answered c.in_ok-sequence.ensures c.known_of-known.ensures c.translation_answer.ensures
