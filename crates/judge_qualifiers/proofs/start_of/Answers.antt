-- By what the qualifiers state.
use mathlib.Core.Logic.{inl, inr}
use Rattle.judge_qualifiers.proofs.Frames.{starts_first, starts_stated, starts_nowhere}
use Rattle.judge_qualifiers.proofs.start_of.Goals as goal

pub returns-in-Stated : goal.returns-in-Stated
returns-in-Stated c = starts_stated c.in-Stated.is

pub returns-in-Unstated : goal.returns-in-Unstated
returns-in-Unstated c = elim c.in-Unstated.is [ inl e ↦ starts_first e | inr e ↦ starts_nowhere e ]
