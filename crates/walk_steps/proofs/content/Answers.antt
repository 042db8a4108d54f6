-- `walk_steps::content` meets its contract: `<X/>`, or a text up to the next `<`.
use Rattle.walk_steps.proofs.Leaves.{short_found, long_found}
use Rattle.walk_steps.proofs.content.Goals as goal

pub returns-then-peek-eq47 : goal.returns-then-peek-eq47
returns-then-peek-eq47 c =
    let a = c.args in
    record { says = short_found a.name.now a.high c.blanks-h.ensures c.peek.ensures c.if-peek-eq47.true c.past.ensures }

pub returns : goal.returns
returns c =
    let blanks = c.blanks-h in
    let a = c.args in
    record { says = λ i. long_found a.name.now a.high blanks.ensures c.peek.ensures c.if-peek-eq47.false c.past-from.ensures c.until-to.ensures c.close.ensures }
