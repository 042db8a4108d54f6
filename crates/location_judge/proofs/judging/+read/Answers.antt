use Prim.Native.Nat.{◌-◌}
use native.Mathlib.Omega.{arith}
use mathlib.Core.Bool.{false}
use mathlib.Core.Path.{◌≡◌}
use Rattle.std.specs.Prelude.{None, Some, eqb}
use Rattle.paper.specs.Bytes.{bytes}
use Rattle.location_judge.specs.Readings.{number_of, operator_of}
use Rattle.paper.proofs.Locate.Model.{read}
use Rattle.location_judge.proofs.Levels.{deep, comp_bad, comp_open, comp_good, level_leaf, list_by, list_not}
use Rattle.location_judge.proofs.Gather.{run_start, run_bad, run_one, passed_by, run_closed, run_other, run_next}
use Rattle.location_judge.proofs.judging.+read.Goals as goal
use Rattle.location_judge.proofs.judging.+read.Goals.{in-Order, in_default-matches}

pub returns-in_err-inner : goal.returns-in_err-inner
returns-in_err-inner t c =
    let a = c.args in
    rw c.from_residual.ensures
    (deep a.depth a.turn a.far c.if-depth-eq0.false
    (comp_bad a.turn a.far (read (a.depth - 1) false a.far) (read (a.depth - 1) a.turn false) c.complement_at.ensures c.if-complement_at.true c.if-not-turn.false c.in_err-inner.ensures))

pub returns-then-not-begins : goal.returns-then-not-begins
returns-then-not-begins t c =
    let a = c.args in
    deep a.depth a.turn a.far c.if-depth-eq0.false
    (comp_open a.turn a.far (read (a.depth - 1) false a.far) (read (a.depth - 1) a.turn false) c.complement_at.ensures c.if-complement_at.true c.if-not-turn.false c.in_ok-inner.ensures
    c.begins.ensures c.if-not-begins.true)

pub returns-then-complement_at : goal.returns-then-complement_at
returns-then-complement_at t c =
    let a = c.args in
    deep a.depth a.turn a.far c.if-depth-eq0.false
    (comp_good a.turn a.far (read (a.depth - 1) false a.far) (read (a.depth - 1) a.turn false) c.complement_at.ensures c.if-complement_at.true c.if-not-turn.false c.in_ok-inner.ensures
    c.begins.ensures c.if-not-begins.false)

pub returns-in_default : goal.returns-in_default
returns-in_default t c =
    let a = c.args in
    deep a.depth a.turn a.far c.if-depth-eq0.false
    (level_leaf a.turn a.far (read (a.depth - 1) false a.far) (read (a.depth - 1) a.turn false) c.complement_at.ensures c.if-complement_at.false c.in_default.ensures c.leaf-in_default.ensures)

pub returns-then-not-far : goal.returns-then-not-far
returns-then-not-far t c =
    let a = c.args in
    deep a.depth a.turn a.far c.if-depth-eq0.false
    (list_not a.turn a.far (read (a.depth - 1) false a.far) (read (a.depth - 1) a.turn false) c.in-Some.ensures c.if-not-far.true)

pub loop-member-init : goal.loop-member-init
loop-member-init t c =
    let m : c.match-matches.matches ≡ eqb (number_of (operator_of c.in-Some.list.operator)) 2
    = elim c.match-matches.branch [
      | in-Order w ↦ rw (w.matches-is, w.in-Order.is)
      | in_default-matches w ↦ rw (w.matches-is, w.in_default-matches.is)
    ] in
    rw m (run_start c.in-Some.ensures)

pub returns-in_err-member : goal.returns-in_err-member
returns-in_err-member t c =
    let a = c.args in
    rw c.from_residual-in_err-member.ensures
    (deep a.depth a.turn a.far c.if-depth-eq0.false
    (list_by a.turn a.far (read (a.depth - 1) false a.far) (read (a.depth - 1) a.turn false) c.in-Some.ensures c.if-not-far.false None tt (run_bad c.loop-member.invariant c.in_err-member.ensures)))

pub returns-then-i-list : goal.returns-then-i-list
returns-then-i-list t c =
    let a = c.args in
    deep a.depth a.turn a.far c.if-depth-eq0.false
    (list_by a.turn a.far (read (a.depth - 1) false a.far) (read (a.depth - 1) a.turn false) c.in-Some.ensures c.if-not-far.false None tt
    (run_one c.loop-member.invariant c.in_ok-member.ensures c.begins-in-loop-member.ensures c.if-begins.true (omega (arith, c.if-i-list.true))))

pub returns-then-begins : goal.returns-then-begins
returns-then-begins t c =
    let a = c.args in
    rw c.add_member-all.ensures
    (deep a.depth a.turn a.far c.if-depth-eq0.false
    (list_by a.turn a.far (read (a.depth - 1) false a.far) (read (a.depth - 1) a.turn false) c.in-Some.ensures c.if-not-far.false (Some _)
    (passed_by c.loop-member.invariant c.in_ok-member.ensures (bytes ")") c.begins-in-loop-member.ensures c.if-begins.true)
    (run_closed c.loop-member.invariant c.in_ok-member.ensures c.begins-in-loop-member.ensures c.if-begins.true c.if-i-list.false)))

pub returns-then-not-begins-2 : goal.returns-then-not-begins-2
returns-then-not-begins-2 t c =
    let a = c.args in
    deep a.depth a.turn a.far c.if-depth-eq0.false
    (list_by a.turn a.far (read (a.depth - 1) false a.far) (read (a.depth - 1) a.turn false) c.in-Some.ensures c.if-not-far.false None tt
    (run_other c.loop-member.invariant c.in_ok-member.ensures c.begins-in-loop-member.ensures c.begins-in-loop-member-2.ensures
    c.if-begins.false c.if-not-begins-2.true))

pub loop-member-preserved : goal.loop-member-preserved
loop-member-preserved t c =
    rw c.add_member-all.ensures
    (run_next c.loop-member.invariant c.in_ok-member.ensures c.begins-in-loop-member.ensures c.begins-in-loop-member-2.ensures c.if-not-begins-2.false)
