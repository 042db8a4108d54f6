-- A refusal, no lines, or its answer.
use Rattle.std.proofs.lemmas.Result.{err_from_is_err_and}
use Rattle.ask_indexed.proofs.Answered.{translations_refused, no_lines, translations_answered}
use Rattle.ask_indexed.proofs.translations.Goals as goal

pub returns-in_err-body : goal.returns-in_err-body
returns-in_err-body c =
    let p = err_from_is_err_and c.from_residual.result c.from_residual.ensures.1 in
    rw (p.1, p.2) (translations_refused c.in_err-body.ensures)

pub returns-in-None : goal.returns-in-None
returns-in-None c = no_lines c.in_ok-body.ensures c.entry_of.ensures c.in-None.is

pub returns-in-Some : goal.returns-in-Some
returns-in-Some c =
    translations_answered c.in_ok-body.ensures c.entry_of.ensures c.in-Some.is c.known_of-known.ensures c.feature_from-first.ensures
    c.translations_answer.ensures
