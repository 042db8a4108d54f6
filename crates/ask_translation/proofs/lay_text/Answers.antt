-- Where it fits it is laid as the pass says.
use Rattle.ask_translation.proofs.Ones.{text_laid, text_short}
use Rattle.ask_translation.proofs.lay_text.Goals as goal

pub returns-then-out-text : goal.returns-then-out-text
returns-then-out-text c = text_short c.if-out-text.true

pub returns : goal.returns
returns c = rw c.or.ensures (text_laid c.args.writing c.pass_of.ensures c.if-out-text.false c.lay_bytes.ensures)
