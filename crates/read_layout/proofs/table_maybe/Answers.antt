-- `read_layout::table_maybe` meets its contract: the element from its parts, or nothing where its tag is not there.
use mathlib.Core.Path.{refl}
use Rattle.read_steps.proofs.Steps.{step_is, tried, failed}
use Rattle.read_layout.proofs.Runs.{enters_failed, leaves_failed}
use Rattle.read_layout.proofs.Elements.{feature_element, features_last, table_reads}
use Rattle.read_layout.proofs.table_maybe.Goals as goal

pub many-d-requires : goal.many-d-requires
many-d-requires c = record { class_table = c.requires; element = feature_element; last = features_last }

pub returns-in-Err : goal.returns-in-Err
returns-in-Err c =
    tried c.in_ok-c.was
    (table_reads (step_is c.tag.ensures c.in-Err.is) (enters_failed _ refl) (failed _ refl) (failed _ refl) (leaves_failed _ refl))
    refl

pub returns-in-Ok : goal.returns-in-Ok
returns-in-Ok c =
    tried c.in_ok-c.was
    (table_reads (step_is c.tag.ensures c.in-Ok.is) c.enter.ensures c.read-b.ensures c.many-d.ensures c.leave.ensures)
    c.stay.ensures
