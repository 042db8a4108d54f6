-- Written, or measured for the same room.
use Rattle.ask_translation.proofs.Ones.{translation_written, translation_measured}
use Rattle.ask_translation.proofs.lay_translation.Goals as goal

pub returns-then-writing : goal.returns-then-writing
returns-then-writing c = translation_written c.if-writing.true c.write.ensures

pub returns : goal.returns
returns c = translation_measured c.if-writing.false c.measure.ensures
