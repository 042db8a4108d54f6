-- A member, or the complement of one.
use Rattle.location_spans.proofs.Walks.{member_plain, member_no, member_open, member_closed}
use Rattle.location_spans.proofs.walking.member.Goals as goal

pub returns-then-not-complement_at : goal.returns-then-not-complement_at
returns-then-not-complement_at c = member_plain c.complement_at.ensures c.if-not-complement_at.true c.piece.result c.piece.ensures

pub returns-in_err-inner : goal.returns-in_err-inner
returns-in_err-inner c =
    rw c.from_residual.ensures (member_no c.complement_at.ensures c.if-not-complement_at.false c.in_err-inner.ensures)

pub returns-then-not-begins : goal.returns-then-not-begins
returns-then-not-begins c =
    member_open c.complement_at.ensures c.if-not-complement_at.false c.in_ok-inner.ensures c.begins.ensures c.if-not-begins.true

pub returns : goal.returns
returns c = member_closed c.complement_at.ensures c.if-not-complement_at.false c.in_ok-inner.ensures c.begins.ensures c.if-not-begins.false
