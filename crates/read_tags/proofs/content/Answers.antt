-- `read_tags::content` meets its contract: blanks, and then `/>`, or `>`, a text and the end tag.
use Rattle.read_steps.proofs.Steps.{step_is, handed_on}
use Rattle.read_tags.proofs.Tags.{body_short, body_long, content_reads}
use Rattle.read_tags.proofs.content.Goals as goal

pub returns-in_err-c : goal.returns-in_err-c
returns-in_err-c c =
    let a = c.args in
    content_reads a.name.now a.high a.start c.blanks.ensures (handed_on _ c.in_err-c.was c.from_residual.ensures.1)

pub returns-in-Ok : goal.returns-in-Ok
returns-in-Ok c =
    let a = c.args in
    content_reads a.name.now a.high a.start (step_is c.blanks.ensures c.in_ok-c.was)
    (body_short a.name.now a.high a.start (step_is c.lit.ensures c.in-Ok.is))

pub returns-in-Err : goal.returns-in-Err
returns-in-Err c =
    let a = c.args in
    content_reads a.name.now a.high a.start (step_is c.blanks.ensures c.in_ok-c.was)
    (body_long a.name.now a.high a.start (step_is c.lit.ensures c.in-Err.is) c.lit-a.ensures c.text.ensures c.close.ensures)
