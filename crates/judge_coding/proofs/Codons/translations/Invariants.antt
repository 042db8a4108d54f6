-- `judge_coding::Codons::translations` meets its contract. The loop's invariant: the first fault of the qualifiers passed. The measure is
-- what is left of the text.
use Prim.Native.Nat.{◌-◌}
use lib.ListN.{length}
use Rattle.judge_coding.proofs.Rights.{Checking}
use Rattle.judge_coding.proofs.Codons.translations.Given as goal

abbrev pub invariant-loop-name : goal.invariant-loop-name
invariant-loop-name l = Checking l.self l.first l.at l.known

abbrev pub decreases-loop-name : goal.decreases-loop-name
decreases-loop-name l = length l.self.s.now - l.at
