-- `ask_lookups::translations` meets its contract: the refusal, no line, or the lines.
use Rattle.std.proofs.lemmas.Result.{err_from_is_err_and}
use Rattle.ask_found.proofs.Translated.{translations_refused}
use Rattle.ask_lookups.proofs.Asked.{no_lines, translations_answered}
use Rattle.ask_lookups.proofs.translations.Goals as goal

pub returns-in_err-sequence : goal.returns-in_err-sequence
returns-in_err-sequence c =
    let p = err_from_is_err_and c.from_residual.result c.from_residual.ensures.1 in
    rw (p.1, p.2) (translations_refused c.in_err-sequence.ensures)

pub returns-in-None : goal.returns-in-None
returns-in-None c = no_lines c.in_ok-sequence.ensures c.in-None.is

pub returns-in-Some : goal.returns-in-Some
returns-in-Some c =
    translations_answered c.in_ok-sequence.ensures c.in-Some.is c.known_of-known.ensures c.feature-first.ensures c.translations_answer.ensures
