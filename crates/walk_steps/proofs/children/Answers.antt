-- `walk_steps::children` meets its contract.
use Rattle.std.proofs.Common.{sym, ◌∙◌}
use Rattle.walk_steps.specs.Stands.{missing, empty, holds}
use Rattle.walk_steps.proofs.children.Goals as goal

pub returns-then-not-here : goal.returns-then-not-here
returns-then-not-here c = missing c.if-not-here.true

pub returns-then-peek-eq47 : goal.returns-then-peek-eq47
returns-then-peek-eq47 c =
    empty c.if-not-here.false c.tag.ensures c.blanks-h.ensures (sym c.peek.ensures ∙ c.if-peek-eq47.true) c.past.ensures c.blanks.ensures

pub returns : goal.returns
returns c =
    holds c.if-not-here.false c.tag.ensures c.blanks-h.ensures (λ h. c.if-peek-eq47.false (c.peek.ensures ∙ h)) c.past-2.ensures c.blanks-2.ensures
