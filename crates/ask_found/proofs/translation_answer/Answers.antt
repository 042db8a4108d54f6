-- `ask_found::translation_answer` meets its contract.
use Rattle.ask_found.proofs.Translated.{translation_found}
use Rattle.ask_found.proofs.translation_answer.Goals as goal

pub returns : goal.returns
returns c = translation_found c.translate.ensures
