-- `read_layout::held_rest` meets its contract: `/>`, or children and an end tag; and blanks.
use mathlib.Core.Path.{sym, ◌∙◌}
use Rattle.read_steps.proofs.Steps.{step_is, step_to, failed, handed}
use Rattle.read_tags.proofs.Tags.{holding?_failed, holding?_short, holding?_long}
use Rattle.read_layout.proofs.held_rest.Goals as goal

pub returns-in_err-c : goal.returns-in_err-c
returns-in_err-c g c =
    let h = c.requires in
    let e = handed _ c.from_residual.ensures.1 in
    record {
      step = _;
      reads = step_to (e ∙ sym c.in_err-c.was) (holding?_failed c.args.name.now h.children h.void _ c.blanks.ensures c.in_err-c.was);
      passes = failed _ e;
    }

pub returns-in-Ok : goal.returns-in-Ok
returns-in-Ok g c =
    let h = c.requires in
    record {
      step = _;
      reads = holding?_short c.args.name.now h.children h.void (step_is c.blanks.ensures c.in_ok-c.was) (step_is c.lit.ensures c.in-Ok.is);
      passes = c.blanks-in-Ok.ensures;
    }

pub returns-in-Err : goal.returns-in-Err
returns-in-Err g c =
    let h = c.requires in
    record {
      step = _;
      reads =
          holding?_long c.args.name.now h.children h.void (step_is c.blanks.ensures c.in_ok-c.was) (step_is c.lit.ensures c.in-Err.is) c.lit-a.ensures
          c.blanks-in-Err.ensures c.read.ensures c.leave.ensures.closes;
      passes = c.leave.ensures.after;
    }
