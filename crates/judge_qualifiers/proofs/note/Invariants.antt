-- `judge_qualifiers::note` meets its contract. The loop's invariant: what the qualifiers passed say. The measure is what is left of the
-- text.
use Prim.Native.Nat.{◌-◌}
use lib.ListN.{length}
use Rattle.judge_qualifiers.proofs.Noting.{Noting}
use Rattle.judge_qualifiers.proofs.note.Given as goal

abbrev pub invariant-loop-name : goal.invariant-loop-name
invariant-loop-name l = Noting l.s l.first l.upper l.row l.vocabulary l.at l.frame l.excepted l.organisms l.moltypes l.words l.met

abbrev pub decreases-loop-name : goal.decreases-loop-name
decreases-loop-name l = length l.s - l.at
