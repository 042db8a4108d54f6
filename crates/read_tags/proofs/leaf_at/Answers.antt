-- `read_tags::leaf_at` meets its contract: in the usual way, or the tag and what follows it; and the blanks after the leaf.
use native.Mathlib.Omega.{arith}
use borrow.Author.Rules.{rules}
use Rattle.read_tags.proofs.Tags.{leaf_reads, child_reads}
use Rattle.read_tags.proofs.Quick.{usual_leaf}
use Rattle.read_tags.proofs.leaf_at.Goals as goal

pub overflow_add-first : goal.overflow_add-first
overflow_add-first c = let h = (c.usual.ensures c.if-usual.true).closed.inside in search rules

pub overflow_add-first-then-usual : goal.overflow_add-first-then-usual
overflow_add-first-then-usual c = let h = (c.usual.ensures c.if-usual.true).closed.inside in search rules

pub returns-then-usual : goal.returns-then-usual
returns-then-usual c =
    child_reads (usual_leaf (c.usual.ensures c.if-usual.true) (omega arith) c.max.ensures c.text.ensures c.close.ensures) c.blanks.ensures

pub returns : goal.returns
returns c =
    let l = c.leaf_rest.ensures in
    child_reads (leaf_reads c.tag.ensures l.reads) l.passes
