-- Its head, and then its features' entries.
use Rattle.index_walk.proofs.Bodies.{body_head, skipped_none, table_none, body_features}
use Rattle.index_walk.proofs.lay_body.Goals as goal

pub returns-then-kind-eq0 : goal.returns-then-kind-eq0
returns-then-kind-eq0 c =
    let kind = c.kind_of_body-kind.ensures in
    let head = c.body_head-numbers.ensures in
    let laid = c.lay_more-laid.ensures in
    body_head kind head laid (skipped_none kind head laid c.if-kind-eq0.true)

pub returns-in_default : goal.returns-in_default
returns-in_default c =
    let kind = c.kind_of_body-kind.ensures in
    let head = c.body_head-numbers.ensures in
    let laid = c.lay_more-laid.ensures in
    body_head kind head laid (table_none kind head laid c.if-kind-eq0.false c.in_default.is)

pub returns : goal.returns
returns c =
    body_features c.kind_of_body-kind.ensures c.body_head-numbers.ensures c.lay_more-laid.ensures c.if-kind-eq0.false c.in-Some.is
    c.lay_features-all.ensures c.wrapping_add_usize.ensures.value
