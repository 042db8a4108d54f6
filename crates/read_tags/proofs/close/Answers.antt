-- `read_tags::close` meets its contract: in the usual way, or `</` and the name are one word, with blanks and `>` after it.
use native.Mathlib.Omega.{arith}
use borrow.Author.Rules.{rules}
use Rattle.read_steps.proofs.Steps.{step_from}
use Rattle.read_steps.proofs.Joins.{these_join}
use Rattle.read_tags.proofs.Tags.{close_reads}
use Rattle.read_tags.proofs.Quick.{usual_close}
use Rattle.read_tags.proofs.close.Goals as goal

pub overflow_add-end : goal.overflow_add-end
overflow_add-end c = let h = (c.usual.ensures c.if-usual.true).closed.inside in search rules

pub overflow_add-end-then-usual : goal.overflow_add-end-then-usual
overflow_add-end-then-usual c = let h = (c.usual.ensures c.if-usual.true).closed.inside in search rules

pub returns-then-usual : goal.returns-then-usual
returns-then-usual c = step_from c.in_ok-next.was (usual_close (c.usual.ensures c.if-usual.true) (omega arith) c.max.ensures)

pub returns : goal.returns
returns c = step_from c.in_ok-next.was (close_reads (these_join c.lit.ensures c.word-a.ensures) c.blanks.ensures c.lit-2.ensures)
