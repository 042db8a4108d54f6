-- `read_steps::word` meets its contract: the word stands there, or `lit` says the same of it.
use borrow.Author.Rules.{rules}
use mathlib.Core.Path.{refl}
use Rattle.read_steps.proofs.Words.{stands_took}
use Rattle.read_steps.proofs.Steps.{found, step_from}
use Rattle.read_steps.proofs.word.Goals as goal

pub overflow_add-end : goal.overflow_add-end
overflow_add-end c = let h = (c.stands.ensures c.if-stands.true).inside in search rules

pub returns-then-stands : goal.returns-then-stands
returns-then-stands c = found c.in_ok-next.was refl c.max.ensures (stands_took (c.stands.ensures c.if-stands.true))

pub returns : goal.returns
returns c = step_from c.in_ok-next.was c.lit.ensures
