-- `read_layout::held_maybe` meets its contract: the element, or nothing where its tag is not there.
use mathlib.Core.Path.{refl}
use Rattle.read_steps.proofs.Steps.{step_is, tried}
use Rattle.read_tags.proofs.Tags.{ev_holding?}
use Rattle.read_layout.proofs.Runs.{tagged_reads, followed_failed}
use Rattle.read_layout.specs.Parts.{HoldingRest}
use Rattle.read_layout.proofs.held_maybe.Goals as goal

pub returns-in-Err : goal.returns-in-Err
returns-in-Err g c =
    let h = c.requires in
    let x = g.C.Held in
    tried c.in_ok-c.was
    (tagged_reads {G = HoldingRest c.args.name.now x.no_child x.form} (ev_holding? c.args.name.now h.children h.void) (step_is c.tag.ensures c.in-Err.is)
    (followed_failed _ refl))
    refl

pub returns-in-Ok : goal.returns-in-Ok
returns-in-Ok g c =
    let h = c.requires in
    let x = g.C.Held in
    tried c.in_ok-c.was
    (tagged_reads {G = HoldingRest c.args.name.now x.no_child x.form} (ev_holding? c.args.name.now h.children h.void) (step_is c.tag.ensures c.in-Ok.is)
    c.held_rest.ensures)
    c.stay.ensures
