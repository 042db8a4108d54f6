-- An element from its parts, or a tag that is not there.
use mathlib.Core.Path.{refl}
use Rattle.read_steps.proofs.Steps.{step_is, step_to, handed, failed}
use Rattle.read_layout.proofs.Runs.{enters_failed, leaves_failed}
use Rattle.read_layout.proofs.Header.{sequence_reads}
use Rattle.read_layout.proofs.SequenceDataRepeated.read.Goals as goal

pub attribute-b-requires : goal.attribute-b-requires
attribute-b-requires c = record { class_table = c.requires; no_blank_first = refl }

pub returns-in_err-a : goal.returns-in_err-a
returns-in_err-a c =
    step_to (handed _ c.from_residual.ensures.1)
    (sequence_reads (step_is c.tag.ensures c.in_err-a.was) (failed _ refl) (enters_failed _ refl) (failed _ refl) (leaves_failed _ refl))

pub returns : goal.returns
returns c = sequence_reads (step_is c.tag.ensures c.in_ok-a.was) c.attribute-b.ensures c.enter.ensures c.inner-c.ensures c.leave.ensures
