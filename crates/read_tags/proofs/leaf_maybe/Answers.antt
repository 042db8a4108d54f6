-- `read_tags::leaf_maybe` meets its contract: the leaf is tried from the step that did not fail, its tag first.
use mathlib.Core.Path.{refl}
use Rattle.read_steps.proofs.Steps.{step_is, failed, tried}
use Rattle.read_tags.proofs.Tags.{leaf_reads, child_reads}
use Rattle.read_tags.proofs.leaf_maybe.Goals as goal

pub returns-in-Err : goal.returns-in-Err
returns-in-Err c =
    tried c.in_ok-c.was (child_reads (leaf_reads (step_is c.tag.ensures c.in-Err.is) (failed _ refl)) (failed _ refl)) refl

pub returns-in-Ok : goal.returns-in-Ok
returns-in-Ok c =
    let l = c.leaf_rest.ensures in
    tried c.in_ok-c.was (child_reads (leaf_reads (step_is c.tag.ensures c.in-Ok.is) l.reads) l.passes) c.stay.ensures
