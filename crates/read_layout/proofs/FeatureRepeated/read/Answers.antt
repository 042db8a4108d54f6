-- An element from its parts, or a tag that is not there.
use mathlib.Core.Path.{refl}
use Rattle.read_steps.proofs.Steps.{step_is, step_to, handed, failed, tried_failed}
use Rattle.read_layout.proofs.Runs.{enters_failed, leaves_failed}
use Rattle.read_layout.proofs.Elements.{qualifiers_facts, no_qualifiers, feature_reads}
use Rattle.read_layout.proofs.FeatureRepeated.read.Goals as goal

pub held_maybe-e-requires : goal.held_maybe-e-requires
held_maybe-e-requires c = record { class_table = c.requires; children = qualifiers_facts; void = no_qualifiers }

pub returns-in_err-a : goal.returns-in_err-a
returns-in_err-a c =
    step_to (handed _ c.from_residual.ensures.1)
    (feature_reads (step_is c.tag.ensures c.in_err-a.was) (enters_failed _ refl) (failed _ refl) (failed _ refl) (tried_failed _ refl refl) (leaves_failed _ refl))

pub returns : goal.returns
returns c =
    feature_reads (step_is c.tag.ensures c.in_ok-a.was) c.enter-b.ensures c.leaf-c.ensures c.leaf-d.ensures c.held_maybe-e.ensures c.leave.ensures
