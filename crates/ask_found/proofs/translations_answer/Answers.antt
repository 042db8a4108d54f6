-- `ask_found::translations_answer` meets its contract.
use Rattle.ask_found.proofs.Translated.{translations_found}
use Rattle.ask_found.proofs.translations_answer.Goals as goal

pub returns : goal.returns
returns c = translations_found c.translate_all.ensures
